-- `state_words::registers_in` meets its contract: one word more is its register.
-- Assumes nothing.
use Rattle.std.proofs.Common.{List, ℕ, get_or, set, replicate, ap, ◌∙◌, arith}
use Rattle.state_words.proofs.Copy.{one_more}
use Rattle.state_words.proofs.registers_in.Goals as goal

pub loop-i-preserved : goal.loop-i-preserved
loop-i-preserved c =
    let words = c.args.words in
    let i = c.loop-i.i in
    ap (λ (l : List ℕ). set l i (get_or words i 0)) c.loop-i.invariant ∙ one_more (replicate 31 0) words i (omega arith) (omega arith)
