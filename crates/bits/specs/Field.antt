-- Bits high:low of a word, as the manual writes them, and a value put at them.
use Rattle.std.specs.Prelude.{ℕ, ◌+◌, ◌-◌, ◌*◌, ◌/◌, ◌%◌, ◌^◌, Bool, true, false, eqb}

-- how many bits high:low are
abbrev pub width_of : ℕ → ℕ → ℕ
width_of high low = high + 1 - low

-- the number that stands at bits high:low of a word
abbrev pub field_of : ℕ → ℕ → ℕ → ℕ
field_of word high low = word / 2 ^ low % 2 ^ width_of high low

-- whether bit n of a word is 1
abbrev pub bit_of : ℕ → ℕ → Bool
bit_of word n = eqb (field_of word n n) 1

-- a yes or no as a bit
abbrev pub digit : Bool → ℕ
digit true = 1
digit false = 0

-- a value cut to bits high:low of a 64-bit word, all other bits 0
abbrev pub placed_of : ℕ → ℕ → ℕ → ℕ
placed_of value high low = value % 2 ^ width_of high low * 2 ^ low % 2 ^ 64
