-- Digits by their bytes.
use Rattle.std.specs.Prelude.{ℕ, ◌+◌, ◌-◌, Bool, cond, ◌&&◌, leb, Option, Some, None}
use Prim.Native.Char.{code}

-- a byte stands between two characters, both counted
abbrev pub within : ℕ → ℕ → ℕ → Bool
within first last byte = leb first byte && leb byte last

-- the value of a hexadecimal digit of either case
abbrev pub hex_digit : ℕ → Option ℕ
hex_digit byte =
    cond (within (code "0") (code "9") byte) (Some (byte - code "0"))
    (cond (within (code "A") (code "F") byte) (Some (byte - code "A" + 10))
    (cond (within (code "a") (code "f") byte) (Some (byte - code "a" + 10)) None))
