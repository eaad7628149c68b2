-- WHAT IS SAID OF A SYNDROME WORD in an edition, of a trap from AArch32: that it is taken, and the lines of its record; or the refusal in
-- words, with 5 the rule that the word breaks, and with 6 the lines of the record that other editions have.
use Rattle.std.specs.Prelude.{ℕ, false, List, [], ◌++◌, Result, Ok, Err}
use Rattle.edition.specs.declared.Refusal.{Refusal}
use Rattle.edition.specs.declared.Refusal.TheVariants.{UnknownEdition, UpperHalf, UnknownClass, ShortInstruction, NoEdition}
use Rattle.edition.specs.declared.Refusal.TheVariants.{OtherEditions}
use Rattle.reason.specs.Reason.{why_of}
use Rattle.record.specs.Split.{record_at}
use Rattle.record.specs.declared.origin.Origin.{Origin}
use Rattle.registers.specs.declared.Esr.{Esr}
use Rattle.record_text.specs.Text.{record_text}
use Rattle.refusal_text.specs.Refusal.{refusal_text}
use Rattle.refusal_text.specs.Why.{why_text}
use Rattle.syndrome.specs.Reading.{read_of}
use Rattle.text.specs.Ascii.{ascii}
use Rattle.record.specs.declared.kinds.Record.{Record}

abbrev pub others_text : ℕ → Refusal → List ℕ
others_text w UnknownEdition = []
others_text w UpperHalf = []
others_text w UnknownClass = []
others_text w ShortInstruction = []
others_text w NoEdition = why_text (why_of w)
others_text w (OtherEditions mask count) = record_text (record_at w)

abbrev pub refused_text : ℕ → Refusal → List ℕ
refused_text w refusal = refusal_text false refusal ++ others_text w refusal

abbrev pub read_text : ℕ → Result Record Refusal → List ℕ
read_text w (Ok r) = ascii "taken\n" ++ record_text r
read_text w (Err refusal) = refused_text w refusal

abbrev pub word_said : ℕ → Esr → List ℕ
word_said e esr = read_text esr.0 (read_of Origin.AArch32 e esr)
