-- The loop of `record_words::padded`: the first i fields stand behind the kind.
use Rattle.std.proofs.Common.{◌≡◌, ◌∷◌}
use lib.Seq.{paste}
use Rattle.record_words.specs.Words.{zeros}
use Rattle.record_words.proofs.padded.Given as goal

abbrev pub invariant-loop-i : goal.invariant-loop-i
invariant-loop-i g l = l.words ≡ paste (l.kind ∷ zeros 15) 1 l.fields l.i
