-- WHAT IS SAID OF A SHORT WORD in a short edition: that it is taken, and the lines of its record; or the refusal in words, with 5 the rule
-- that the word breaks, and with 6 the lines of the record that the other edition has.
use Rattle.std.specs.Prelude.{ℕ, true, List, [], ◌++◌, Result, Ok, Err}
use Rattle.edition.specs.declared.Refusal.{Refusal}
use Rattle.edition.specs.declared.Refusal.TheVariants.{UnknownEdition, UpperHalf, UnknownClass, ShortInstruction, NoEdition}
use Rattle.edition.specs.declared.Refusal.TheVariants.{OtherEditions}
use Rattle.refusal_text.specs.Refusal.{refusal_text}
use Rattle.refusal_text.specs.Why.{why_text}
use Rattle.short.specs.Reading.{read_of}
use Rattle.short_reason.specs.Reason.{why_of}
use Rattle.short_record.specs.Split.{record_at}
use Rattle.registers.specs.declared.Hsr.{Hsr}
use Rattle.text.specs.Ascii.{ascii}
use Rattle.short_text.specs.Text.{record_text}
use Rattle.short_record.specs.declared.kinds.Record.{Record}

abbrev pub others_text : ℕ → Refusal → List ℕ
others_text w UnknownEdition = []
others_text w UpperHalf = []
others_text w UnknownClass = []
others_text w ShortInstruction = []
others_text w NoEdition = why_text (why_of w)
others_text w (OtherEditions mask count) = record_text (record_at w)

abbrev pub read_text : ℕ → Result Record Refusal → List ℕ
read_text w (Ok r) = ascii "taken\n" ++ record_text r
read_text w (Err refusal) = refusal_text true refusal ++ others_text w refusal

abbrev pub short_said : ℕ → Hsr → List ℕ
short_said e hsr = read_text hsr.0 (read_of e hsr)
