-- A line of the program explain. In trapread's manner: an edition and a syndrome word (crate line). With the two address registers behind
-- it, ESR, FAR and HPFAR, each of 16 hexadecimal digits: a whole trap. After the word `short`: a short edition and a word of 8 hexadecimal
-- digits. Every other line is no line.
use Rattle.std.specs.Prelude.{ℕ, ◌%◌, ◌^◌, Bool, cond, ◌&&◌, List, eqb, length, get_or, take, drop, Option, Some, None}
use Prim.Native.Char.{code}
use Rattle.line.specs.Line.{word_of, line_of}
use Rattle.line.specs.declared.Question as Line
use Rattle.text.specs.Digit.{hex_digit}
use Rattle.question.specs.declared.Question.{Question}

abbrev pub word_from : Option Line.Question → Option Question
word_from (Some asked) = Some (Question.Word asked.edition asked.word)
word_from None = None

-- a trap: ESR's line of 18 bytes, and FAR and HPFAR, each after a space
abbrev pub trap_from : Option Line.Question → Option ℕ → Option ℕ → Option Question
trap_from (Some asked) (Some far) (Some hpfar) = Some (Question.Trap asked.edition asked.word far hpfar)
trap_from (Some asked) (Some far) None = None
trap_from (Some asked) None hpfar = None
trap_from None far hpfar = None

abbrev pub trap_of : List ℕ → Option Question
trap_of line =
    cond (eqb (get_or line 18 0) (code " ") && eqb (get_or line 35 0) (code " "))
    (trap_from (line_of (take 18 line)) (word_of (take 16 (drop 19 line))) (word_of (take 16 (drop 36 line)))) None

-- a short word: `short`, a space, the edition, a space, and 8 digits
abbrev pub short_from : Option ℕ → Option ℕ → Option Question
short_from (Some edition) (Some hsr) = Some (Question.Short edition (hsr % 2 ^ 32))
short_from (Some edition) None = None
short_from None hsr = None

abbrev pub says_short : List ℕ → Bool
says_short line =
    eqb (get_or line 0 0) (code "s") && eqb (get_or line 1 0) (code "h") && eqb (get_or line 2 0) (code "o") && eqb (get_or line 3 0) (code "r")
    && eqb (get_or line 4 0) (code "t")
    && eqb (get_or line 5 0) (code " ")
    && eqb (get_or line 7 0) (code " ")

abbrev pub short_of : List ℕ → Option Question
short_of line = cond (says_short line) (short_from (hex_digit (get_or line 6 0)) (word_of (drop 8 line))) None

-- the line, without its newline, by its length
unfoldable pub question_of : List ℕ → Option Question
question_of line =
    cond (eqb (length line) 18) (word_from (line_of line))
    (cond (eqb (length line) 52) (trap_of line) (cond (eqb (length line) 16) (short_of line) None))
