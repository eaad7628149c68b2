-- What every edition answers alike: the mask of a word says it for all of them at once.
-- Assumes nothing.
use mathlib.Core.Path.{◌≡◌, ◌∙◌, ap}
use mathlib.Core.Bool.{true, false}
use Prim.Native.Nat.{ℕ, ◌<◌}
use borrow.Author.Tests.{lt-ltb}
use Rattle.std.specs.Prelude.{Ok, Err}
use Rattle.edition.specs.Feature.{editions}
use Rattle.edition.specs.Mask.{mask_of}
use Rattle.edition.specs.Judge.{judge_of}
use Rattle.edition.specs.declared.Refusal.TheVariants.{ShortInstruction, NoEdition}
use Rattle.edition.proofs.Masks.{mask_everywhere}
use Rattle.form.proofs.Forms.{word_record}
use Rattle.form.proofs.Verdicts.{verdict_of}
use Rattle.record.specs.Split.{record_at}
use Rattle.record.specs.declared.origin.Origin.{Origin}
use Rattle.registers.specs.declared.Esr.{Esr}
use Rattle.syndrome.specs.Inner.{makes}
use Rattle.syndrome.specs.Tests.{upper_clear, class_known, word_il}
use Rattle.syndrome.specs.Form.{long_form}
use Rattle.syndrome.specs.Reading.{has_word, read_of}
use Rattle.syndrome.proofs.Instance.{sound}
use Rattle.syndrome.proofs.Steps.{read_short, read_judged}
use Rattle.syndrome.proofs.Demand2.{read_exactly}

module _ (o : Origin) (esr : Esr) (e : ℕ) (is : e < editions) where
  -- a word that all editions have is taken in each
  pub taken_everywhere : mask_of (λ x. has_word o x esr.0) ≡ mask_of (λ x. true) → read_of o e esr ≡ Ok (record_at esr.0)
  unfolding mask_of
  taken_everywhere all =
      (read_exactly o e esr (record_at esr.0)).1
      (word_record (long_form o) (sound o) e esr.0 (mask_everywhere editions (λ x. has_word o x esr.0) all e is))

  module _ (u : upper_clear esr.0 ≡ true) (c : class_known o esr.0 ≡ true) where
    -- IL is refused alike
    pub short_everywhere : word_il o esr.0 ≡ false → read_of o e esr ≡ Err ShortInstruction
    short_everywhere = read_short o e esr (lt-ltb e editions is) u c

    -- and so is what no edition has
    pub none_everywhere : word_il o esr.0 ≡ true → mask_of (λ x. makes o x (record_at esr.0) esr.0) ≡ 0
        → read_of o e esr ≡ Err NoEdition
    unfolding judge_of
    none_everywhere l none =
        read_judged o e esr (lt-ltb e editions is) u c l ∙ ap (λ (m : ℕ). verdict_of (record_at esr.0) (judge_of e m)) none
