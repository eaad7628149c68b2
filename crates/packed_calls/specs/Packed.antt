-- The answers of the reader and the writer as single numbers, from each origin.
use Rattle.std.specs.Prelude.{ℕ, ◌+◌, ◌-◌, ◌*◌, ◌^◌, Result, Ok, Err}
use Rattle.edition.specs.Judge.{refusal_number, refusal_mask, refusal_count}
use Rattle.edition.specs.declared.Refusal.{Refusal}
use Rattle.registers.specs.declared.Esr.{Esr}
use Rattle.record.specs.declared.origin.Origin.{Origin}
use Rattle.record.specs.declared.kinds.Record.{Record}
use Rattle.syndrome.specs.Answer.{read_said}
use Rattle.syndrome.specs.Reading.{read_of}
use Rattle.syndrome.specs.Writing.{write_of}

-- a refusal's number, from bit 8 its mask, from bit 24 its number of ones
abbrev pub packed_refusal : Refusal → ℕ
packed_refusal f = refusal_number f + refusal_mask f * 2 ^ 8 + refusal_count f * 2 ^ 24

abbrev pub packed_answer : Result Record Refusal → ℕ
packed_answer a = read_said.number a + read_said.mask a * 2 ^ 8 + read_said.count a * 2 ^ 24

abbrev pub packed_read : Origin → ℕ → ℕ → ℕ
packed_read o e w = packed_answer (read_of o e (record { 0 = w }))

-- the word that a record is written to, or all ones
abbrev pub word_or : Result Esr Refusal → ℕ
word_or (Ok esr) = esr.0
word_or (Err f) = 2 ^ 64 - 1

abbrev pub rewritten_from : Origin → ℕ → Result Record Refusal → ℕ
rewritten_from o writer (Ok r) = word_or (write_of o writer r)
rewritten_from o writer (Err f) = 2 ^ 64 - 1

abbrev pub rewritten : Origin → ℕ → ℕ → ℕ → ℕ
rewritten o reader writer w = rewritten_from o writer (read_of o reader (record { 0 = w }))
