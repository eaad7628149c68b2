-- Writing a record (01, 'Numbers a call may answer'): 1, then 5 for a class that its kind or the origin lacks (02, C-23), then 4, then 5 or
-- 6, or the word.
use Rattle.std.specs.Prelude.{ℕ, List, [], ◌∷◌, Result}
use Rattle.bits.specs.Decide.{Test, needs, decide}
use Rattle.edition.specs.Feature.{editions, is_edition}
use Rattle.edition.specs.Mask.{count_below}
use Rattle.edition.specs.declared.Refusal.{Refusal}
use Rattle.form.specs.Call.{some_has}
use Rattle.form.specs.Form as Form
use Rattle.promise.specs.Promise.{Promise}
use Rattle.registers.specs.declared.Esr.{Esr}
use Rattle.record.specs.declared.origin.Origin.{Origin}
use Rattle.record.specs.declared.kinds.Record.{Record}
use Rattle.rule.specs.Has.{record_class, record_il, has, editions_of}
use Rattle.syndrome.specs.Form.{long_form}
use Rattle.syndrome.specs.Answer.{as_written, written_said}

module _ (o : Origin) where
  unfoldable pub write_of : ℕ → Record → Result Esr Refusal
  write_of e r = as_written (Form.write_as (long_form o) e r)

  -- the tests, each with its number
  abbrev pub write_list : ℕ → Record → List (Test ℕ)
  write_list e r =
      needs (is_edition e) 1
      ∷ needs (record_class o r) 5
      ∷ needs (record_il o r) 4
      ∷ needs (some_has editions (λ x. has o x r)) 5
      ∷ needs (has o e r) 6
      ∷ []

  -- THE PROMISE of writing: the answer; its number, that of the first test that fails; and with 6 alone the mask of the editions that have
  -- the record, and how many they are
  abbrev pub Writing : ℕ → Record → Result Esr Refusal → Type 0
  Writing e r = Promise written_said (write_of e r) (decide (write_list e r) 0) (editions_of o r) (count_below editions (λ x. has o x r))
