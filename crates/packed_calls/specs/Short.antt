-- The answers of the short form's reader and writer as single numbers.
use Rattle.std.specs.Prelude.{ℕ, ◌+◌, ◌-◌, ◌*◌, ◌^◌, Result, Ok, Err}
use Rattle.short.specs.Answer.{read_said}
use Rattle.short.specs.Reading.{read_of}
use Rattle.short.specs.Writing.{write_of}
use Rattle.edition.specs.declared.Refusal.{Refusal}
use Rattle.registers.specs.declared.Hsr.{Hsr}
use Rattle.short_record.specs.declared.kinds.Record.{Record}

-- the answer's number, from bit 8 its mask, from bit 24 its number of ones
abbrev pub packed_short : Result Record Refusal → ℕ
packed_short a = read_said.number a + read_said.mask a * 2 ^ 8 + read_said.count a * 2 ^ 24

abbrev pub packed_short_read : ℕ → ℕ → ℕ
packed_short_read e w = packed_short (read_of e (record { 0 = w }))

-- the word that a record is written to, or all ones
abbrev pub short_word_or : Result Hsr Refusal → ℕ
short_word_or (Ok hsr) = hsr.0
short_word_or (Err f) = 2 ^ 64 - 1

abbrev pub rewritten_short_from : ℕ → Result Record Refusal → ℕ
rewritten_short_from writer (Ok r) = short_word_or (write_of writer r)
rewritten_short_from writer (Err f) = 2 ^ 64 - 1

abbrev pub rewritten_short : ℕ → ℕ → ℕ → ℕ
rewritten_short reader writer w = rewritten_short_from writer (read_of reader (record { 0 = w }))
