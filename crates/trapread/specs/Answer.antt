-- The answer to a line, with its newline. The program reads traps from AArch32 (02, C-23).
use Rattle.std.specs.Prelude.{ℕ, List, ◌++◌, Result, Ok, Err, Option, Some, None}
use Rattle.edition.specs.Judge.{refusal_number, refusal_mask, refusal_count}
use Rattle.edition.specs.declared.Refusal.{Refusal}
use Rattle.line.specs.declared.Question.{Question}
use Rattle.record.specs.declared.origin.Origin.{Origin}
use Rattle.syndrome.specs.Reading.{read_of}
use Rattle.text.specs.Ascii.{ascii}
use Rattle.text.specs.Numeral.{decimal_text}
use Rattle.record.specs.declared.kinds.Record.{Record}

abbrev pub field_text : ℕ → List ℕ
field_text n = ascii " " ++ decimal_text n

-- a refusal's number, mask and number of ones
abbrev pub refused_text : Refusal → List ℕ
refused_text refusal =
    ascii "refused" ++ field_text (refusal_number refusal) ++ field_text (refusal_mask refusal) ++ field_text (refusal_count refusal)
    ++ ascii "\n"

abbrev pub read_text : Result Record Refusal → List ℕ
read_text (Ok r) = ascii "taken\n"
read_text (Err refusal) = refused_text refusal

abbrev pub answer_text : Option Question → List ℕ
answer_text (Some asked) = read_text (read_of Origin.AArch32 asked.edition (record { 0 = asked.word }))
answer_text None = ascii "no line\n"
