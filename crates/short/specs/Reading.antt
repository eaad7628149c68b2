-- Reading a short word (01, 'Numbers a call may answer'; request C-11 of document 02): 1 and 3 to 6 in this order, or the record.
use Rattle.std.specs.Prelude.{ℕ, Bool, List, [], ◌∷◌, Result}
use Rattle.bits.specs.Decide.{Test, needs, decide}
use Rattle.edition.specs.Mask.{count_below}
use Rattle.edition.specs.declared.Refusal.{Refusal}
use Rattle.short_rule.specs.Edition.{editions, is_edition, mask_of}
use Rattle.form.specs.Call.{some_has}
use Rattle.form.specs.Form as Form
use Rattle.promise.specs.Promise.{Promise}
use Rattle.registers.specs.declared.Hsr.{Hsr}
use Rattle.short_record.specs.declared.kinds.Record.{Record}
use Rattle.short.specs.Tests.{class_known, word_il}
use Rattle.short.specs.Form.{short_form}
use Rattle.short.specs.Answer.{read_said}

-- an edition has a word: it has a record that makes the word (`has_word_exactly`, proofs/Demand2.antt)
abbrev pub has_word : ℕ → ℕ → Bool
has_word e w = Form.has_word short_form e w

unfoldable pub read_of : ℕ → Hsr → Result Record Refusal
read_of e hsr = Form.read_as short_form e hsr.0

-- the tests, each with its number
abbrev pub read_list : ℕ → Hsr → List (Test ℕ)
read_list e hsr =
    needs (is_edition e) 1
    ∷ needs (class_known hsr.0) 3
    ∷ needs (word_il hsr.0) 4
    ∷ needs (some_has editions (λ x. has_word x hsr.0)) 5
    ∷ needs (has_word e hsr.0) 6
    ∷ []

-- THE PROMISE of reading: the answer; its number, that of the first test that fails; and with 6 alone the mask of the editions that have
-- the word, and how many they are
abbrev pub Reading : ℕ → Hsr → Result Record Refusal → Type 0
Reading e hsr =
    Promise read_said (read_of e hsr) (decide (read_list e hsr) 0) (mask_of (λ x. has_word x hsr.0))
    (count_below editions (λ x. has_word x hsr.0))
