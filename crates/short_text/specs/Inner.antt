-- Inner contracts, which nobody has to believe: the shape of a short word, by its class and whether it is an SError interrupt's, and
-- its lines. The short form's shapes stand behind the 64 of the long form.
use Rattle.std.specs.Prelude.{ℕ, ◌+◌, Bool, true, cond, ◌&&◌, List, [], ◌++◌, eqb, Result, Ok, Err}
use Rattle.bits.specs.Field.{field_of}
use Rattle.edition.specs.Judge.{refusal_number}
use Rattle.edition.specs.declared.Refusal.{Refusal}
use Rattle.field_text.specs.Rows.{shape_text}
use Rattle.refusal_text.specs.Refusal.{refusal_text}
use Rattle.refusal_text.specs.Why.{why_text}
use Rattle.short_reason.specs.Reason.{why_of}
use Rattle.text.specs.Ascii.{ascii}
use Rattle.short_record.specs.declared.kinds.Record.{Record}

-- a data abort with code 0x11
abbrev pub is_error : ℕ → ℕ → Bool
is_error class code = eqb class 0x24 && eqb code 0x11

abbrev pub shape_of : ℕ → ℕ → ℕ
shape_of class code = cond (is_error class code) 128 (64 + class)

unfoldable pub word_text : ℕ → List ℕ
word_text w = shape_text (shape_of (field_of w 31 26) (field_of w 5 0)) w

-- what is said, with the word's fields as code reads them
abbrev pub others_lines : ℕ → Refusal → List ℕ
others_lines w refusal =
    cond (eqb (refusal_number refusal) 6) (word_text w) (cond (eqb (refusal_number refusal) 5) (why_text (why_of w)) [])

abbrev pub read_lines : ℕ → Result Record Refusal → List ℕ
read_lines w (Ok r) = ascii "taken\n" ++ word_text w
read_lines w (Err refusal) = refusal_text true refusal ++ others_lines w refusal
