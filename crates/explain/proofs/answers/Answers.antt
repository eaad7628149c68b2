-- `explain::answers` meets its contract. The invariant is what `Reading` says of a chunk that has been read up to a byte.
-- Assumes nothing.
use mathlib.Core.List.{List}
use Prim.Native.Nat.{ℕ, ◌<◌}
use lib.ListN.{length}
use Rattle.text.proofs.Chunks.{begun, line_ended, line_on, state_read, text_read}
use Rattle.line.specs.Feed.{started, fed}
use Rattle.question.specs.Feed.{ended}
use Rattle.line.specs.declared.State.{State}
use Rattle.explain.specs.Answer.{answer_text}
use Rattle.explain.proofs.answers.Goals as goal
use Rattle.explain.proofs.answers.Goals.{then-byte-eq10, else-byte-eq10}

abbrev answer_to : State 52 → List ℕ
answer_to s = answer_text (ended s)

pub loop-byte-init : goal.loop-byte-init
loop-byte-init c = begun (started 52) (fed 52) answer_to c.args.chunk.now c.args.before c.args.text.now

pub loop-byte-preserved : goal.loop-byte-preserved
loop-byte-preserved c =
    let l = c.loop-byte in
    let more : l.byte-index < length c.args.chunk.now = c.loop-byte-test.true in
    elim c.if-byte-eq10.branch [
      | then-byte-eq10 w ↦
          rw (w.text-is, w.line-is, w.start-line.ensures)
          (line_ended (started 52) (fed 52) answer_to l.invariant more w.if-byte-eq10.true (rw w.finish.ensures at w.answer.ensures))
      | else-byte-eq10 w ↦ rw (w.text-is, w.line-is, w.feed-line.ensures) (line_on (started 52) (fed 52) answer_to l.invariant more w.if-byte-eq10.false)
    ]

pub returns : goal.returns
returns c =
    let l = c.loop-byte in
    record {
      line_value = state_read (started 52) (fed 52) answer_to l.invariant c.loop-byte-test.false;
      appends = text_read (started 52) (fed 52) answer_to l.invariant c.loop-byte-test.false;
    }
