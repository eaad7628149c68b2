-- Inner contracts, which nobody has to believe: each is shown to be a definition of the other files where it matters.
use Rattle.std.specs.Prelude.{ℕ, List, [], ◌∷◌}
use Rattle.std.specs.Int.Bits.{bit_or}
use Rattle.bits.specs.Field.{placed_of}
use Rattle.bits.specs.Layout.{Field, high_of, low_of, value_of}

-- the fields put together by `|`, each cut to its bits: `word_of` where the fields fit (`joined_word`, proofs/Fields.antt)
abbrev pub joined_from : ℕ → List Field → ℕ
joined_from word [] = word
joined_from word (f ∷ fs) = joined_from (bit_or word (placed_of (value_of f) (high_of f) (low_of f))) fs
