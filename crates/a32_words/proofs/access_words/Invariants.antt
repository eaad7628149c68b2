-- The loops of `a32_words::access_words`: the first i words of the fields, and then of the shape, stand in their places.
use Rattle.std.proofs.Common.{◌≡◌}
use lib.Seq.{paste}
use Rattle.a32_words.proofs.access_words.Given as goal

abbrev pub invariant-loop-i : goal.invariant-loop-i
invariant-loop-i l = l.words ≡ paste l.initial.words 1 l.after l.i

abbrev pub invariant-loop-i-2 : goal.invariant-loop-i-2
invariant-loop-i-2 l = l.words ≡ paste l.initial.words 10 l.moved l.i
