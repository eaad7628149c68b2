-- The answers of code, and what each means (crate form, specs/Answer.antt): what is given, with 0, or a refusal, with its number, mask and
-- number of ones.
use Rattle.std.specs.Prelude.{ℕ, Result, Ok, Err}
use Rattle.std.specs.Result.{result_flatten}
use Rattle.edition.specs.declared.Refusal.{Refusal}
use Rattle.promise.specs.Promise.{Numbers}
use Rattle.form.specs.Promise.{numbers_of}
use Rattle.registers.specs.declared.Hsr.{Hsr}
use Rattle.short_record.specs.declared.kinds.Record.{Record}

-- reading
abbrev pub read_said : Numbers (Result Record Refusal)
read_said = numbers_of (λ a. a)

-- writing: the word is a register's
abbrev pub as_written : Result ℕ Refusal → Result Hsr Refusal
as_written (Ok w) = Ok (record { 0 = w })
as_written (Err refusal) = Err refusal

abbrev pub written_means : Result Hsr Refusal → Result ℕ Refusal
written_means (Ok hsr) = Ok hsr.0
written_means (Err refusal) = Err refusal

abbrev pub written_said : Numbers (Result Hsr Refusal)
written_said = numbers_of written_means

-- carrying: the writer's refusal, or what the reader answers
abbrev pub carried_said : Numbers (Result (Result Record Refusal) Refusal)
carried_said = numbers_of result_flatten
