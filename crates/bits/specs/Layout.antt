-- A layout: the fields of a word, each with its bits and its value, the highest first.
use Rattle.std.specs.Prelude.{ℕ, ◌+◌, ◌*◌, ◌^◌, Bool, true, ◌&&◌, List, [], ◌∷◌, leb, ltb}
use Rattle.bits.specs.Field.{width_of, digit}

-- a number at bits high:low, or a yes or no at one bit
pub data Field : Type 0 where
  at : ℕ → ℕ → ℕ → Field
  flag_at : ℕ → Bool → Field

abbrev pub high_of : Field → ℕ
high_of (at high low value) = high
high_of (flag_at n b) = n

abbrev pub low_of : Field → ℕ
low_of (at high low value) = low
low_of (flag_at n b) = n

abbrev pub value_of : Field → ℕ
value_of (at high low value) = value
value_of (flag_at n b) = digit b

-- the word that the fields make: each at its bits, every other bit 0
abbrev pub word_of : List Field → ℕ
word_of [] = 0
word_of (f ∷ fs) = value_of f * 2 ^ low_of f + word_of fs

-- each number fits its bits; a yes or no always fits
abbrev pub fitting : List Field → Bool
fitting [] = true
fitting (at high low value ∷ fs) = ltb value (2 ^ width_of high low) && fitting fs
fitting (flag_at n b ∷ fs) = fitting fs

-- the fields stand below bit `top`, each below the one before it
abbrev pub ordered : ℕ → List Field → Bool
ordered top [] = true
ordered top (f ∷ fs) = leb (low_of f) (high_of f) && ltb (high_of f) top && ordered (low_of f) fs
