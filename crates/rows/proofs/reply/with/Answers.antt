use borrow.Author.Tests.{lt-ltb, le-ltb}
use Rattle.rows.specs.Reply.{with_one}
use Rattle.rows.proofs.reply.with.Goals as goal

pub returns-then-count-lt256 : goal.returns-then-count-lt256
unfolding with_one
returns-then-count-lt256 c = simp (lt-ltb _ _ c.if-count-lt256.true)

pub returns-else-count-lt256 : goal.returns-else-count-lt256
unfolding with_one
returns-else-count-lt256 c = simp (le-ltb _ _ c.if-count-lt256.false)
