-- Writing a record (01, 'Numbers a call may answer'): 1, then 5 for a class that its kind lacks, then 4, then 5 or 6, or the word.
use Rattle.std.specs.Prelude.{ℕ, List, [], ◌∷◌, Result}
use Rattle.bits.specs.Decide.{Test, needs, decide}
use Rattle.edition.specs.Mask.{count_below}
use Rattle.edition.specs.declared.Refusal.{Refusal}
use Rattle.short_rule.specs.Edition.{editions, is_edition}
use Rattle.form.specs.Call.{some_has}
use Rattle.form.specs.Form as Form
use Rattle.promise.specs.Promise.{Promise}
use Rattle.registers.specs.declared.Hsr.{Hsr}
use Rattle.short_record.specs.Class.{head_of}
use Rattle.short_record.specs.declared.kinds.Record.{Record}
use Rattle.short_rule.specs.Has.{has, record_il, editions_of}
use Rattle.short.specs.Form.{short_form}
use Rattle.short.specs.Answer.{as_written, written_said}

unfoldable pub write_of : ℕ → Record → Result Hsr Refusal
write_of e r = as_written (Form.write_as short_form e r)

-- the tests, each with its number
abbrev pub write_list : ℕ → Record → List (Test ℕ)
write_list e r =
    needs (is_edition e) 1
    ∷ needs (head_of r).own 5
    ∷ needs (record_il r) 4
    ∷ needs (some_has editions (λ x. has x r)) 5
    ∷ needs (has e r) 6
    ∷ []

-- THE PROMISE of writing: the answer; its number, that of the first test that fails; and with 6 alone the mask of the editions that have
-- the record, and how many they are
abbrev pub Writing : ℕ → Record → Result Hsr Refusal → Type 0
Writing e r = Promise written_said (write_of e r) (decide (write_list e r) 0) (editions_of r) (count_below editions (λ x. has x r))
