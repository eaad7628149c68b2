-- Reading a syndrome (01, 'Numbers a call may answer'): 1 to 6 in this order, or the record. The caller says the trap's
-- origin (02, C-23).
use Rattle.std.specs.Prelude.{ℕ, Bool, List, [], ◌∷◌, Result}
use Rattle.bits.specs.Decide.{Test, needs, decide}
use Rattle.edition.specs.Feature.{editions, is_edition}
use Rattle.edition.specs.Mask.{mask_of, count_below}
use Rattle.edition.specs.declared.Refusal.{Refusal}
use Rattle.form.specs.Call.{some_has}
use Rattle.form.specs.Form as Form
use Rattle.promise.specs.Promise.{Promise}
use Rattle.record.specs.declared.origin.Origin.{Origin}
use Rattle.registers.specs.declared.Esr.{Esr}
use Rattle.record.specs.declared.kinds.Record.{Record}
use Rattle.syndrome.specs.Tests.{upper_clear, class_known, word_il}
use Rattle.syndrome.specs.Form.{long_form}
use Rattle.syndrome.specs.Answer.{read_said}

module _ (o : Origin) where
  -- an edition has a word: it has a record that makes the word (`has_word_exactly`, proofs/Demand2.antt)
  abbrev pub has_word : ℕ → ℕ → Bool
  has_word e w = Form.has_word (long_form o) e w

  unfoldable pub read_of : ℕ → Esr → Result Record Refusal
  read_of e esr = Form.read_as (long_form o) e esr.0

  -- the tests, each with its number
  abbrev pub read_list : ℕ → Esr → List (Test ℕ)
  read_list e esr =
      needs (is_edition e) 1
      ∷ needs (upper_clear esr.0) 2
      ∷ needs (class_known o esr.0) 3
      ∷ needs (word_il o esr.0) 4
      ∷ needs (some_has editions (λ x. has_word x esr.0)) 5
      ∷ needs (has_word e esr.0) 6
      ∷ []

  -- THE PROMISE of reading: the answer; its number, that of the first test that fails; and with 6 alone the mask of the editions that have
  -- the word, and how many they are
  abbrev pub Reading : ℕ → Esr → Result Record Refusal → Type 0
  Reading e esr =
      Promise read_said (read_of e esr) (decide (read_list e esr) 0) (mask_of (λ x. has_word x esr.0))
      (count_below editions (λ x. has_word x esr.0))
