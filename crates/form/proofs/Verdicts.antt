-- A call whose own tests pass is decided by the judgement on the mask of the editions that have it: what code computes is what the tests
-- say. Assumes nothing.
use mathlib.Core.Path.{◌≡◌, refl, ◌∙◌, sym, ap}
use mathlib.Core.Bool.{Bool, true, false, cond, ◌&&◌, and-false}
use mathlib.Core.List.{List}
use Prim.Native.Nat.{ℕ}
use borrow.Author.Tests.{ltb-true}
use lib.Dec.{eqb, ltb}
use Rattle.std.specs.Prelude.{Result, Ok, Err}
use Rattle.bits.specs.Decide.{Test, AllPass}
use Rattle.edition.specs.Mask.{mask_below}
use Rattle.edition.specs.Judge.{judge_of}
use Rattle.edition.specs.declared.Refusal.{Refusal}
use Rattle.edition.specs.declared.Refusal.TheVariants.{NoEdition}
use Rattle.edition.proofs.Masks.{mask_when, mask_same}
use Rattle.edition.proofs.Judgement.{judge_test}
use Rattle.form.specs.Call.{some_has, others, call_of}
use Rattle.form.proofs.Calls.{call_judged}

-- the editions that have a record which makes the word: code asks whether the record, put together, is the word, and a record that some
-- edition has is put together into its word
pub made_mask : (n : ℕ) (has : ℕ → Bool) (joined word w : ℕ) → ((e : ℕ) → has e ≡ true → joined ≡ word)
    → cond (eqb joined w) (mask_below n has) 0 ≡ mask_below n (λ e. eqb word w && has e)
made_mask n has joined word w made =
    mask_when n (eqb joined w) has
    ∙ mask_same n (λ e. eqb joined w && has e) (λ e. eqb word w && has e) (λ e h. by e (has e) refl)
  where
    by : (e : ℕ) (b : Bool) → has e ≡ b → (eqb joined w && has e) ≡ (eqb word w && has e)
    by e true h = ap (λ (x : ℕ). eqb x w && has e) (made e h)
    by e false h =
        ap (λ (b : Bool). eqb joined w && b) h ∙ and-false (eqb joined w)
        ∙ sym (ap (λ (b : Bool). eqb word w && b) h ∙ and-false (eqb word w))

-- what a verdict makes of what is to be given
abbrev pub verdict_of : {A : Type 0} → A → Result Unit Refusal → Result A Refusal
verdict_of a (Ok done) = Ok a
verdict_of a (Err refusal) = Err refusal

pub call_verdict : {A : Type 0} (n : ℕ) (test : ℕ → Bool) (own : List (Test Refusal)) (e : ℕ) (a : A) → ltb e n ≡ true → AllPass own
    → call_of n test own e a ≡ verdict_of a (judge_of e (mask_below n test))
call_verdict n test own e a is pass =
    call_judged n test own e a is pass ∙ by (some_has n test) (test e) ∙ sym (ap (verdict_of a) (judge_test n test e (ltb-true e n is)))
  where
    by : (some has : Bool)
        → cond some (cond has (Ok a) (Err (others n test))) (Err NoEdition)
        ≡ verdict_of a (cond some (cond has (Ok (tt {0})) (Err (others n test))) (Err NoEdition))
    by true true = refl
    by true false = refl
    by false has = refl
