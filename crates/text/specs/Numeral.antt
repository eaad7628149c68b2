-- Numbers written without leading zeros.
use Rattle.std.specs.Prelude.{ℕ, zero, suc, ◌/◌, ◌%◌, cond, List, [], ◌∷◌, ◌++◌, ltb}
use Rattle.io.specs.Digits.{hex_digit_ascii}

-- a number in a base, of at most so many digits: one digit below the base, else the digits of n / base and one more
abbrev pub numeral : ℕ → ℕ → ℕ → List ℕ
numeral zero base n = []
numeral (suc most) base n = cond (ltb n base) (hex_digit_ascii n ∷ []) (numeral most base (n / base) ++ (hex_digit_ascii (n % base) ∷ []))

-- a 64-bit number has at most 20 decimal and 16 hexadecimal digits
unfoldable pub decimal_text : ℕ → List ℕ
decimal_text n = numeral 20 10 n

unfoldable pub hex_text : ℕ → List ℕ
hex_text n = numeral 16 16 n
