-- Requests C-14 and C-21: a log as lines of text. The first line tells how the log was read.
use Rattle.std.specs.Prelude.{ℕ, cond, Option, Some, None, Result, Ok, Err, List, [], ◌++◌}
use Rattle.registers.specs.declared.Far.{Far}
use Rattle.registers.specs.declared.Hpfar.{Hpfar}
use Rattle.edition.specs.Feature.{is_edition}
use Rattle.trap_log.specs.Answer.{number_of, section_in}
use Rattle.trap_log.specs.declared.answer.LogRefusal.{LogRefusal}
use Rattle.log_section.specs.declared.entry.Entry.{Entry}
use Rattle.names.specs.Name.{meaning_of}
use Rattle.names.specs.Value.{injections}
use Rattle.registers.specs.declared.Esr.{Esr}
use Rattle.text.specs.Ascii.{ascii}
use Rattle.text.specs.Numeral.{decimal_text, hex_text}

-- a space and a number
abbrev pub decimal_field : ℕ → List ℕ
decimal_field n = ascii " " ++ decimal_text n

abbrev pub hex_field : ℕ → List ℕ
hex_field n = ascii " " ++ hex_text n

-- an edition as it is typed, one hexadecimal digit; a number that is no edition's is decimal, and said to be unknown
abbrev pub edition_field : ℕ → List ℕ
edition_field n = cond (is_edition n) (hex_field n) (decimal_field n ++ ascii " unknown")

-- a refusal of the log: its number and its section
abbrev pub refused_text : LogRefusal → List ℕ
refused_text refusal =
    ascii "refused" ++ decimal_field (number_of (Err refusal)) ++ decimal_field (section_in (Err refusal)) ++ ascii "\n"

-- how many counts and entries were gone through, or the refusal
abbrev pub read_text : Result ℕ LogRefusal → List ℕ
read_text (Ok gone) = ascii "taken" ++ decimal_field gone ++ ascii "\n"
read_text (Err refusal) = refused_text refusal

-- the entries
abbrev pub edition_text : ℕ → List ℕ
edition_text edition = ascii "edition" ++ edition_field edition ++ ascii "\n"

-- an injection with its domain, and its name where its byte is the number of one
abbrev pub injection_text : ℕ → ℕ → List ℕ
injection_text injection domain =
    ascii "injection" ++ decimal_field injection ++ ascii " domain" ++ decimal_field domain ++ meaning_of injections injection ++ ascii "\n"

-- an entry that has a line of its own; a trap's registers stand in two entries
abbrev pub entry_text : Option Entry → List ℕ
entry_text (Some (Entry.Edition edition)) = edition_text edition
entry_text (Some (Entry.Syndrome esr)) = []
entry_text (Some (Entry.Address far hpfar)) = []
entry_text (Some (Entry.Injection injection domain)) = injection_text injection domain
entry_text None = []

-- the three registers of a trap
abbrev pub words_text : Esr → Far → Hpfar → List ℕ
words_text esr far hpfar = ascii "trap" ++ hex_field esr.0 ++ hex_field far.0 ++ hex_field hpfar.0 ++ ascii "\n"
