-- The number, mask and count of a call's answer.
-- Assumes nothing.
use mathlib.Core.Path.{◌≡◌, refl, ◌∙◌, sym, ap, subst}
use mathlib.Core.Bool.{Bool, true, false, cond}
use mathlib.Core.List.{List, [], ◌∷◌}
use Prim.Native.Nat.{ℕ}
use borrow.Author.Tests.{ne_eqb}
use lib.Dec.{ltb}
use Rattle.std.specs.Prelude.{Result, Ok, Err}
use Rattle.bits.specs.Decide.{Test, needs, decide, relabel}
use Rattle.edition.specs.Mask.{mask_below, count_below}
use Rattle.edition.specs.Judge.{refusal_number, refusal_mask, refusal_count}
use Rattle.edition.specs.declared.Refusal.{Refusal}
use Rattle.edition.specs.declared.Refusal.TheVariants.{UnknownEdition, UpperHalf, UnknownClass, ShortInstruction, NoEdition, OtherEditions}
use Rattle.edition.proofs.Masks.{mask_ones}
use Rattle.form.specs.Answer.{number_in, mask_in, count_in}
use Rattle.promise.specs.Promise.{six_only}
use Rattle.form.specs.Call.{others, call_tests, call_of}
use Rattle.form.specs.Form.{Form, read_back}
use Rattle.form.proofs.Calls.{NotSix, Own, Ending, unknown_edition, own_test_lem, other_editions, passed, ending}

-- what is said of an answer is what is said of the first refusal, or of what is given
through : {A X : Type 0} (said : Result A Refusal → X) (tests : List (Test Refusal)) (a : A)
    → said (decide (relabel Err tests) (Ok a)) ≡ decide (relabel (λ f. said (Err f)) tests) (said (Ok a))
through said [] a = refl
through said (needs true f ∷ tests) a = through said tests a
through said (needs false f ∷ tests) a = refl

pub call_through : {A X : Type 0} (said : Result A Refusal → X) (n : ℕ) (test : ℕ → Bool) (own : List (Test Refusal)) (e : ℕ) (a : A)
    → said (call_of n test own e a) ≡ decide (relabel (λ f. said (Err f)) (call_tests n test own e)) (said (Ok a))
unfolding call_of
call_through said n test own e a = through said (call_tests n test own e) a

-- the number of a call's answer is that of the first of its tests that fails
pub call_number : {A : Type 0} (n : ℕ) (test : ℕ → Bool) (own : List (Test Refusal)) (e : ℕ) (a : A)
    → number_in (call_of n test own e a) ≡ decide (relabel refusal_number (call_tests n test own e)) 0
call_number = call_through number_in

-- every refusal but 6 carries mask 0 and number 0
pub only_six_names : (f : Refusal) → NotSix f → (refusal_mask f ≡ 0) × (refusal_count f ≡ 0)
only_six_names UnknownEdition other = (refl, refl)
only_six_names UpperHalf other = (refl, refl)
only_six_names UnknownClass other = (refl, refl)
only_six_names ShortInstruction other = (refl, refl)
only_six_names NoEdition other = (refl, refl)
only_six_names (OtherEditions mask count) other = absurd (other refl)

module _ {A : Type 0} (n : ℕ) (test : ℕ → Bool) (own : List (Test Refusal)) (e : ℕ) (a : A) (ok : Own n test own) where
  -- the mask and the count come with 6 alone: the editions that have it, and their number
  abbrev Carries : Result A Refusal → Type 0
  Carries r = (mask_in r ≡ six_only (number_in r) (mask_below n test)) × (count_in r ≡ six_only (number_in r) (count_below n test))

  pub call_carries : Carries (call_of n test own e a)
  call_carries = by (ending n test own e a ok)
    where
      at : (r : Result A Refusal) → call_of n test own e a ≡ r → Carries r → Carries (call_of n test own e a)
      at r q c = subst Carries (sym q) c

      by : Ending n test own e a → Carries (call_of n test own e a)
      by (unknown_edition isn't q) = at (Err UnknownEdition) q (refl, refl)
      by (own_test_lem none f other q) =
          let zero = only_six_names f other in
          let not-six = ne_eqb (refusal_number f) 6 other in
          at (Err f) q (
            zero.0 ∙ sym (ap (λ (b : Bool). cond b (mask_below n test) 0) not-six),
            zero.1 ∙ sym (ap (λ (b : Bool). cond b (count_below n test) 0) not-six),
          )
      by (other_editions o q) = at (Err (others n test)) q (refl, mask_ones n test)
      by (passed is had q) = at (Ok a) q (refl, refl)

-- what the reader's edition makes of a record that some edition put out: its number by two tests, and with 6 alone the mask and the count
module _ {R : Type 0} (f : Form R) (reader : ℕ) (r : R) where
  pub back_number : number_in (read_back f reader r) ≡ decide (needs (ltb reader f.editions) 1 ∷ needs (f.has reader r) 6 ∷ []) 0
  back_number = by (ltb reader f.editions) (f.has reader r)
    where
      by : (k h : Bool)
          → number_in (cond k (cond h (Ok r) (Err (others f.editions (λ x. f.has x r)))) (Err UnknownEdition))
          ≡ cond k (cond h 0 6) 1
      by true true = refl
      by true false = refl
      by false h = refl

  abbrev Names : Result R Refusal → Type 0
  Names a =
      (mask_in a ≡ six_only (number_in a) (mask_below f.editions (λ x. f.has x r)))
      × (count_in a ≡ six_only (number_in a) (count_below f.editions (λ x. f.has x r)))

  pub back_names : Names (read_back f reader r)
  back_names = by (ltb reader f.editions) (f.has reader r)
    where
      by : (k h : Bool) → Names (cond k (cond h (Ok r) (Err (others f.editions (λ x. f.has x r)))) (Err UnknownEdition))
      by true true = (refl, refl)
      by true false = (refl, mask_ones f.editions (λ x. f.has x r))
      by false h = (refl, refl)
