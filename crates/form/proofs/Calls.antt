-- The five ways in which a call ends, over any number of editions, any test of the edition and any tests of its own; and refusal 6 exactly.
-- Assumes nothing.
use mathlib.Core.Path.{◌≡◌, refl, ◌∙◌, sym, ap, ap₂}
use mathlib.Core.Bool.{Bool, true, false, cond, not, true≢false}
use mathlib.Core.List.{List, ◌++◌}
use mathlib.Core.Logic.{◌⊎◌, inl, inr, ◌↔◌}
use Prim.Native.Nat.{ℕ, ◌≤◌, ◌<◌}
use native.Mathlib.Omega.{arith}
use borrow.Author.Tests.{ltb-true, lt-ltb, eq-eqb, ne_eqb}
use lib.Count.{ones}
use lib.Dec.{ltb}
use Rattle.std.specs.Prelude.{Result, Ok, Err}
use Rattle.bits.specs.Field.{bit_of}
use Rattle.bits.specs.Decide.{Test, decide, relabel, AllPass}
use Rattle.bits.proofs.Arms.{absurd_answer}
use Rattle.bits.proofs.Booleans.{not_true_false}
use Rattle.bits.proofs.Deciding.{decide_append, relabel_append, OneOf, Failing, first_failing, all_pass_relabel}
use Rattle.edition.specs.Mask.{mask_below, count_below}
use Rattle.edition.specs.Judge.{refusal_number}
use Rattle.edition.specs.declared.Refusal.{Refusal}
use Rattle.edition.specs.declared.Refusal.TheVariants.{UnknownEdition, NoEdition, OtherEditions}
use Rattle.edition.proofs.Masks.{mask_bit, mask_bit_above, mask_zero, mask_ones, some_or_none}
use Rattle.form.specs.Call.{some_has, others, judgement, call_of}

-- no edition has it; some edition has it; the edition is one of the n, it doesn't have it, and another does
abbrev pub NoneHas : ℕ → (ℕ → Bool) → Type 0
NoneHas n test = (x : ℕ) → x < n → test x ≡ false

-- some edition has it
abbrev pub OneHas : ℕ → (ℕ → Bool) → Type 0
OneHas n test = (x : ℕ) × (x < n) × (test x ≡ true)

-- the edition is one of the n, it doesn't have it, and another does
abbrev pub OthersHave : ℕ → (ℕ → Bool) → ℕ → Type 0
OthersHave n test e = (ltb e n ≡ true) × (test e ≡ false) × OneHas n test

-- a refusal that isn't 6
abbrev pub NotSix : Refusal → Type 0
NotSix f = refusal_number f ≡ 6 → ⊥

-- what contradicts an edition's having it, contradicts every edition's
pub none_has : (n : ℕ) (test : ℕ → Bool) → ((x : ℕ) → x < n → test x ≡ true → ⊥) → NoneHas n test
none_has n test no_one x is = not_true_false (test x) (no_one x is)

-- a call's own tests, which what some edition has passes, and none of which answers 6
pub record Own (n : ℕ) (test : ℕ → Bool) (own : List (Test Refusal)) : Type 0 where
  pub passes : (x : ℕ) → x < n → test x ≡ true → AllPass own
  pub early : OneOf NotSix own

module _ {A : Type 0} (n : ℕ) (test : ℕ → Bool) (own : List (Test Refusal)) (e : ℕ) (a : A) where
  -- the tests, one part after the other
  call_known : ltb e n ≡ true → call_of n test own e a
      ≡ decide (relabel Err own) (decide (relabel Err (judgement n test e)) (Ok a))
  unfolding call_of
  call_known is =
      ap (λ (b : Bool). cond b (decide (relabel Err (own ++ judgement n test e)) (Ok a)) (Err UnknownEdition)) is
      ∙ ap (λ tests. decide tests (Ok a)) (relabel_append Err own (judgement n test e))
      ∙ decide_append (relabel Err own) (relabel Err (judgement n test e)) (Ok a)

  pub call_unknown : ltb e n ≡ false → call_of n test own e a ≡ Err UnknownEdition
  unfolding call_of
  call_unknown isn't =
      ap (λ (b : Bool). cond b (decide (relabel Err (own ++ judgement n test e)) (Ok a)) (Err UnknownEdition)) isn't

  pub call_judged : ltb e n ≡ true → AllPass own → call_of n test own e a ≡ decide (relabel Err (judgement n test e)) (Ok a)
  call_judged is pass = call_known is ∙ all_pass_relabel Err own (decide (relabel Err (judgement n test e)) (Ok a)) pass

  pub data Ending : Type 0 where
    unknown_edition : ltb e n ≡ false → call_of n test own e a ≡ Err UnknownEdition → Ending
    own_test_lem : NoneHas n test → (f : Refusal) → NotSix f → call_of n test own e a ≡ Err f → Ending
    other_editions : OthersHave n test e → call_of n test own e a ≡ Err (others n test) → Ending
    passed : e < n → test e ≡ true → call_of n test own e a ≡ Ok a → Ending

  some : OneHas n test → some_has n test ≡ true
  some found =
      ap not (ne_eqb (mask_below n test) 0 (λ z. true≢false (sym found.2 ∙ mask_zero n test z found.0 found.1)))

  by_judgement : ltb e n ≡ true → AllPass own → Ending
  by_judgement is pass = by (some_or_none n test) (test e) refl
    where
      by : (mask_below n test ≡ 0) ⊎ OneHas n test → (b : Bool) → test e ≡ b → Ending
      by (inl z) b same =
          own_test_lem (mask_zero n test z) NoEdition (λ six. absurd (omega (arith, six)))
          (call_judged is pass
          ∙ ap (λ (b : Bool). cond (not b) (cond (test e) (Ok a) (Err (others n test))) (Err NoEdition))
          (eq-eqb (mask_below n test) 0 z))
      by (inr found) true same =
          passed (ltb-true e n is) same
          (call_judged is pass
          ∙ ap₂ (λ (b c : Bool). cond b (cond c (Ok a) (Err (others n test))) (Err NoEdition)) (some found) same)
      by (inr found) false same =
          other_editions (is, same, found)
          (call_judged is pass
          ∙ ap₂ (λ (b c : Bool). cond b (cond c (Ok a) (Err (others n test))) (Err NoEdition)) (some found) same)

  module _ (ok : Own n test own) where
    pub ending : Ending
    ending = by (ltb e n) refl (first_failing NotSix Err own ok.early)
      where
        by : (k : Bool) → ltb e n ≡ k → AllPass own ⊎ Failing {B = Result A Refusal} NotSix Err own → Ending
        by false isn't f = unknown_edition isn't (call_unknown isn't)
        by true is (inl pass) = by_judgement is pass
        by true is (inr fails) =
            own_test_lem (none_has n test (λ x l t. fails.2 (ok.passes x l t))) fails.0 fails.1 (call_known is ∙ fails.3 _)

    -- what is given, the edition has
    pub given_had : (b : A) → call_of n test own e a ≡ Ok b → (e < n) × (test e ≡ true) × (a ≡ b)
    given_had b t = by ending
      where
        by : Ending → (e < n) × (test e ≡ true) × (a ≡ b)
        by (unknown_edition isn't q) = absurd_answer (cc (t, q))
        by (own_test_lem none f other q) = absurd_answer (cc (t, q))
        by (other_editions o q) = absurd_answer (cc (t, q))
        by (passed is had q) = (is, had, cc (t, q))

    -- what the edition has is given
    pub had_given : e < n → test e ≡ true → call_of n test own e a ≡ Ok a
    had_given is had = by ending
      where
        by : Ending → call_of n test own e a ≡ Ok a
        by (unknown_edition isn't q) = absurd (true≢false (sym (lt-ltb e n is) ∙ isn't))
        by (own_test_lem none f other q) = absurd (true≢false (sym had ∙ none e is))
        by (other_editions o q) = absurd (true≢false (sym had ∙ o.1))
        by (passed is had q) = q

    six_others : (mask count : ℕ) → call_of n test own e a ≡ Err (OtherEditions mask count)
        → OthersHave n test e × (mask ≡ mask_below n test) × (count ≡ count_below n test)
    six_others mask count t = by ending
      where
        by : Ending → OthersHave n test e × (mask ≡ mask_below n test) × (count ≡ count_below n test)
        by (unknown_edition isn't q) = absurd_answer (cc (t, q))
        by (own_test_lem none f other q) =
            let same : f ≡ OtherEditions mask count = cc (t, q) in
            absurd (other (ap refusal_number same))
        by (other_editions o q) =
            let m : mask ≡ mask_below n test = cc (t, q) in
            let c : count ≡ ones (mask_below n test) = cc (t, q) in
            (o, m, c ∙ mask_ones n test)
        by (passed is had q) = absurd_answer (cc (t, q))

    pub others_six : OthersHave n test e → call_of n test own e a ≡ Err (others n test)
    others_six o = by ending
      where
        by : Ending → call_of n test own e a ≡ Err (others n test)
        by (unknown_edition isn't q) = absurd (true≢false (sym o.0 ∙ isn't))
        by (own_test_lem none f other q) = absurd (true≢false (sym o.2.2 ∙ none o.2.0 o.2.1))
        by (other_editions o q) = q
        by (passed is had q) = absurd (true≢false (sym had ∙ o.1))

    -- REFUSAL 6 EXACTLY: when the edition is one of the n, it doesn't have it and another does; with the mask of those that have it, and
    -- their number
    pub six_exactly : (mask count : ℕ)
        → (call_of n test own e a ≡ Err (OtherEditions mask count))
        ↔ (OthersHave n test e × (mask ≡ mask_below n test) × (count ≡ count_below n test))
    six_exactly mask count = (
      six_others mask count,
      λ h. others_six h.0 ∙ ap₂ (λ (m c : ℕ). Err (OtherEditions m c)) (sym h.1) (mask_ones n test ∙ sym h.2),
    )

-- the mask has bit x exactly when edition x has it, and no bit above
module _ (n : ℕ) (test : ℕ → Bool) (x : ℕ) where
  pub mask_names : x < n → bit_of (mask_below n test) x ≡ test x
  mask_names = mask_bit n test x

  pub mask_names_no_other : n ≤ x → bit_of (mask_below n test) x ≡ false
  mask_names_no_other = mask_bit_above n test x
