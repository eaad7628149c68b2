-- Request C-14, "all numbers little-endian": the bytes of a number, the lowest first, and the number that bytes make.
use Rattle.std.specs.Prelude.{ℕ, zero, suc, ◌+◌, ◌*◌, ◌/◌, ◌%◌, ◌<◌, List, [], ◌∷◌, get_or}

-- a number in so many bytes
unfoldable pub little : ℕ → ℕ → List ℕ
little zero n = []
little (suc width) n = n % 256 ∷ little width (n / 256)

unfoldable pub number : List ℕ → ℕ
number [] = 0
number (byte ∷ rest) = byte + 256 * number rest

-- every element is a byte, as those of a slice of bytes are
abbrev pub Bytes : List ℕ → Type 0
Bytes s = (i : ℕ) → get_or s i 0 < 256
