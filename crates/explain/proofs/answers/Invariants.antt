-- `explain::answers` meets its contract. The invariant is what `Reading` says of a chunk that has been read up to a byte.
-- Assumes nothing.
use mathlib.Core.List.{List}
use Prim.Native.Nat.{ℕ}
use Rattle.text.proofs.Chunks.{Reading}
use Rattle.line.specs.Feed.{started, fed}
use Rattle.question.specs.Feed.{ended}
use Rattle.line.specs.declared.State.{State}
use Rattle.explain.specs.Answer.{answer_text}
use Rattle.explain.proofs.answers.Given as goal

abbrev answer_to : State 52 → List ℕ
answer_to s = answer_text (ended s)

abbrev pub invariant-loop-byte : goal.invariant-loop-byte
invariant-loop-byte l = Reading (started 52) (fed 52) answer_to l.chunk l.initial.line l.initial.text l.line l.text l.byte-index
