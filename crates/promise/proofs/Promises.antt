-- What a promise says of each number, and the promise of a call that never answers 6.
-- Assumes nothing.
use mathlib.Core.Path.{◌≡◌, refl, ◌∙◌, sym, ap, subst}
use mathlib.Core.Bool.{Bool, true, false, cond, not}
use mathlib.Core.List.{List, [], ◌∷◌}
use mathlib.Core.Logic.{◌↔◌, inl, inr}
use Prim.Native.Nat.{ℕ}
use borrow.Author.Tests.{eq-eqb}
use lib.Dec.{T, eqb}
use Rattle.bits.specs.Decide.{Test, needs, decide, relabel, FirstFails, unused, distinct, FailsWith}
use Rattle.bits.proofs.Booleans.{both_left, both_right}
use Rattle.bits.proofs.Deciding.{OneOf, answer_is, decide_relabel, decided_exactly, decided_with_exactly}
use Rattle.promise.specs.Promise.{Numbers, Promise, Answers}

module _ {X : Type 0} {said : Numbers X} {x : X} {m c : ℕ} where
  -- what is promised of the right answer is promised of the one that came
  pub kept : {k : ℕ} {a : X} → a ≡ x → Promise said x k m c x → Promise said x k m c a
  kept {k} {a} same p = subst (Promise said x k m c) (sym same) p

  -- EACH NUMBER EXACTLY: it comes exactly when its test is the first that fails, and 0 exactly when none fails
  pub first_exactly : (tests : List (Test ℕ)) → T (distinct tests) → Promise said x (decide tests 0) m c x
      → (k : ℕ) → (said.number x ≡ k) ↔ FirstFails k tests
  first_exactly tests d p k = let law = decided_exactly tests d k in (λ t. law.0 (sym p.number ∙ t), λ h. p.number ∙ law.1 h)

  -- the same where two tests may share a number
  pub fails_exactly : (tests : List (Test ℕ)) → Promise said x (decide tests 0) m c x → (k : ℕ) → (said.number x ≡ k) ↔ FailsWith k tests
  fails_exactly tests p k = let law = decided_with_exactly tests k in (λ t. law.0 (sym p.number ∙ t), λ h. p.number ∙ law.1 h)

  -- no other numbers come than 0 and the tests'
  pub number_is : (P : ℕ → Type 0) (tests : List (Test ℕ)) → Promise said x (decide tests 0) m c x → OneOf P tests → P 0
      → P (said.number x)
  number_is P tests p all zero = subst P (sym p.number) (answer_is P tests 0 all zero)

-- a number that no test has doesn't come
unfailing : (k : ℕ) (tests : List (Test ℕ)) → T (unused k tests) → FailsWith k tests → ⊥
unfailing k [] u f = subst (λ (b : Bool). T (not b)) (eq-eqb k 0 f) u
unfailing k (needs passes number ∷ tests) u (inl f) =
    subst (λ (b : Bool). T (not b)) (eq-eqb k number f.1) (both_left (not (eqb k number)) (unused k tests) u)
unfailing k (needs passes number ∷ tests) u (inr f) = unfailing k tests (both_right (not (eqb k number)) (unused k tests) u) f.1

-- ---- calls that never answer 6

either_way : (b : Bool) (z : ℕ) → z ≡ cond b z z
either_way true z = refl
either_way false z = refl

module _ {X : Type 0} (number : X → ℕ) where
  -- by the equation and the number alone
  pub promised : {x a : X} (tests : List (Test ℕ)) → a ≡ x → number x ≡ decide tests 0 → Answers number x tests a
  promised {x} {a} tests e n =
      let none = either_way (eqb (number a) 6) 0 in
      record { answer = e; number = ap number e ∙ n; mask = none; count = none }

  -- where the first test that fails gives the answer, the number follows
  pub by_tests : {x a : X} (tests : List (Test X)) (last : X) → number last ≡ 0 → decide tests last ≡ x → a ≡ x
      → Answers number x (relabel number tests) a
  by_tests tests last zero made e =
      promised (relabel number tests) e
      (ap number (sym made) ∙ decide_relabel number tests last ∙ ap (decide (relabel number tests)) zero)

  -- 6 COMES NEVER, where no test has it
  pub never_six : {x : X} (tests : List (Test ℕ)) → T (unused 6 tests) → Answers number x tests x → number x ≡ 6 → ⊥
  never_six tests free p e = unfailing 6 tests free ((fails_exactly tests p 6).0 e)
