-- Editions as sets of chip features (01, 'Editions', and 02, C-16): RAS counts 1, LPA2 counts 2, HAFDBS counts 4, LPA counts 8.
use Rattle.std.specs.Prelude.{ℕ, Bool, ltb}
use Rattle.bits.specs.Field.{bit_of}

-- how many editions there are
abbrev pub editions : ℕ
editions = 16

abbrev pub is_edition : ℕ → Bool
is_edition e = ltb e editions

abbrev pub ras : ℕ → Bool
ras e = bit_of e 0

abbrev pub lpa2 : ℕ → Bool
lpa2 e = bit_of e 1

abbrev pub hafdbs : ℕ → Bool
hafdbs e = bit_of e 2

abbrev pub lpa : ℕ → Bool
lpa e = bit_of e 3
