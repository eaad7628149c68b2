-- A number in a list: as code tests it, one test after the other joined by `|`; as an arm of a `match` has it; and what holds of each
-- number of the list. Assumes nothing.
use mathlib.Core.Path.{◌≡◌, refl, ◌∙◌, sym, ap, subst}
use mathlib.Core.Bool.{Bool, true, false, not, ◌&&◌, ◌||◌, true≢false}
use mathlib.Core.List.{List, [], ◌∷◌}
use mathlib.Core.Logic.{◌⊎◌, inl, inr, ⊎_elim}
use Prim.Native.Nat.{ℕ}
use borrow.Author.Tests.{eqb-true, ne_eqb}
use lib.Dec.{T, eqb}
use Rattle.bits.specs.Among.{among}
use Rattle.bits.proofs.Booleans.{both_left, both_right, is_true, not_true_false, either}

-- the tests of a list, after one that came before
abbrev pub among_after : Bool → List ℕ → ℕ → Bool
among_after b [] n = b
among_after b (k ∷ ks) n = among_after (b || eqb n k) ks n

pub among_after_lem : (b : Bool) (ks : List ℕ) (n : ℕ) → among_after b ks n ≡ (b || among ks n)
among_after_lem true [] n = refl
among_after_lem false [] n = refl
among_after_lem true (k ∷ ks) n = among_after_lem true ks n
among_after_lem false (k ∷ ks) n = among_after_lem (eqb n k) ks n

-- a statement of each number of a list
abbrev pub Each : (ℕ → Type 0) → List ℕ → Type 0
Each P [] = Unit {0}
Each P (k ∷ ks) = P k × Each P ks

-- what holds of each number of a list holds of a number among them
pub among_each : (ks : List ℕ) (P : ℕ → Type 0) → Each P ks → (n : ℕ) → among ks n ≡ true → P n
among_each [] P each n e = absurd (true≢false (sym e))
among_each (k ∷ ks) P each n e =
    ⊎_elim (λ h. subst P (sym (eqb-true n k h)) each.0) (among_each ks P each.1 n) (either (eqb n k) (among ks n) e)

-- a test that computes to yes at each number of a list holds of a number among them
abbrev pub all : (ℕ → Bool) → List ℕ → Bool
all test [] = true
all test (k ∷ ks) = test k && all test ks

pub among_all : (ks : List ℕ) (test : ℕ → Bool) → T (all test ks) → (n : ℕ) → among ks n ≡ true → test n ≡ true
among_all [] test t n e = absurd (true≢false (sym e))
among_all (k ∷ ks) test t n e =
    ⊎_elim (λ h. ap test (eqb-true n k h) ∙ is_true (test k) (both_left (test k) (all test ks) t))
    (among_all ks test (both_right (test k) (all test ks) t) n) (either (eqb n k) (among ks n) e)

-- a number of a list is none that the list hasn't
pub among_other : (ks : List ℕ) (k : ℕ) → T (not (among ks k)) → (n : ℕ) → among ks n ≡ true → eqb n k ≡ false
among_other ks k t n e =
    not_true_false (eqb n k) (λ same. subst (λ (b : Bool). T (not b)) (ap (among ks) (sym (eqb-true n k same)) ∙ e) t)

-- a number is one of an arm's, `k | ..`
abbrev pub OfArm : ℕ → List ℕ → ℕ → Type 0
OfArm k [] n = n ≡ k
OfArm k (j ∷ ks) n = (n ≡ k) ⊎ OfArm j ks n

pub arm_each : (k : ℕ) (ks : List ℕ) (P : ℕ → Type 0) → Each P (k ∷ ks) → {n : ℕ} → OfArm k ks n → P n
arm_each k [] P each e = subst P (sym e) each.0
arm_each k (j ∷ ks) P each e = ⊎_elim (λ h. subst P (sym h) each.0) (arm_each j ks P each.1) e

pub not_of_arm : (k : ℕ) (ks : List ℕ) (n : ℕ) → (OfArm k ks n → ⊥) → among (k ∷ ks) n ≡ false
not_of_arm k [] n none = simp (ne_eqb n k none)
not_of_arm k (j ∷ ks) n none = simp (ne_eqb n k (λ e. none (inl e)), not_of_arm j ks n (λ e. none (inr e)))
