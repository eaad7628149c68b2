-- The line of the program (01, the last lines of 'Cases', and 02, C-16): one hexadecimal digit for the edition, a space, 16 hexadecimal
-- digits, all of either case. Every other line is no line.
use Rattle.std.specs.Prelude.{ℕ, ◌+◌, ◌*◌, cond, ◌&&◌, List, [], ◌∷◌, leb, eqb, length, get_or, drop, Option, Some, None}
use Prim.Native.Char.{code}
use Rattle.text.specs.Digit.{hex_digit}
use Rattle.line.specs.declared.Question.{Question}

-- the number that hexadecimal digits make, counted on from the value of those before
abbrev pub on_digit : Option ℕ → (ℕ → Option ℕ) → Option ℕ
on_digit (Some digit) rest = rest digit
on_digit None rest = None

abbrev pub word_from : ℕ → List ℕ → Option ℕ
word_from value [] = Some value
word_from value (byte ∷ rest) = on_digit (hex_digit byte) (λ digit. word_from (value * 16 + digit) rest)

unfoldable pub word_of : List ℕ → Option ℕ
word_of digits = word_from 0 digits

-- a word has at most 16 digits
abbrev pub digits_word : List ℕ → Option ℕ
digits_word digits = cond (leb (length digits) 16) (word_of digits) None

abbrev pub question_of : Option ℕ → Option ℕ → Option Question
question_of (Some edition) (Some word) = Some (record { edition = edition; word = word })
question_of (Some edition) None = None
question_of None word = None

-- the line, without its newline: 1 + 1 + 16 bytes
unfoldable pub line_of : List ℕ → Option Question
line_of line =
    cond (eqb (length line) 18 && eqb (get_or line 1 0) (code " ")) (question_of (hex_digit (get_or line 0 0)) (word_of (drop 2 line)))
    None
