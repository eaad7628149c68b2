-- Laws of tests in their order, over every list of tests.
-- Assumes nothing.
use mathlib.Core.Path.{◌≡◌, refl, sym, ◌∙◌, ap, subst}
use mathlib.Core.Bool.{Bool, true, false, cond, not, true≢false}
use mathlib.Core.List.{List, [], ◌∷◌, ◌++◌}
use mathlib.Core.Logic.{◌⊎◌, inl, inr, ◌↔◌}
use Prim.Native.Nat.{ℕ}
use borrow.Author.Tests.{eqb-true, eq-eqb}
use lib.Dec.{T, eqb}
use Rattle.bits.specs.Decide.{Test, needs, decide, relabel, AllPass, Either, FirstFails, unused, distinct, FailsWith}
use Rattle.bits.proofs.Booleans.{both_left, both_right}

-- an answer of the answer is the answer of the tests with that answer
pub decide_relabel : {A B : Type 0} (f : A → B) (tests : List (Test A)) (last : A)
    → f (decide tests last) ≡ decide (relabel f tests) (f last)
decide_relabel f [] last = refl
decide_relabel f (needs true answer ∷ tests) last = decide_relabel f tests last
decide_relabel f (needs false answer ∷ tests) last = refl

-- tests that go on after others
pub decide_append : {A : Type 0} (first rest : List (Test A)) (last : A) → decide (first ++ rest) last ≡ decide first (decide rest last)
decide_append [] rest last = refl
decide_append (needs true answer ∷ first) rest last = decide_append first rest last
decide_append (needs false answer ∷ first) rest last = refl

pub relabel_append : {A B : Type 0} (f : A → B) (first rest : List (Test A))
    → relabel f (first ++ rest) ≡ (relabel f first ++ relabel f rest)
relabel_append f [] rest = refl
relabel_append f (needs passes answer ∷ first) rest = ap (λ l. needs passes (f answer) ∷ l) (relabel_append f first rest)

-- where every test passes, the last answer comes
pub all_pass : {A : Type 0} (tests : List (Test A)) (last : A) → AllPass tests → decide tests last ≡ last
all_pass [] last p = refl
all_pass (needs passes answer ∷ tests) last p =
    ap (λ (b : Bool). cond b (decide tests last) answer) p.0 ∙ all_pass tests last p.1

unequal : (k m : ℕ) → T (not (eqb k m)) → k ≡ m → ⊥
unequal k m t e = subst (λ (b : Bool). T (not b)) (eq-eqb k m e) t

-- a number that no test has doesn't come
not_decided : (k : ℕ) (tests : List (Test ℕ)) → T (unused k tests) → decide tests 0 ≡ k → ⊥
not_decided k [] u e = unequal k 0 u (sym e)
not_decided k (needs true number ∷ tests) u e = not_decided k tests (both_right (not (eqb k number)) (unused k tests) u) e
not_decided k (needs false number ∷ tests) u e = unequal k number (both_left (not (eqb k number)) (unused k tests) u) (sym e)

decided_fails : (tests : List (Test ℕ)) → T (distinct tests) → (k : ℕ) → decide tests 0 ≡ k → FirstFails k tests
decided_fails [] d k e = sym e
decided_fails (needs true number ∷ tests) d k e =
    by (decided_fails tests (both_right (unused number tests) (distinct tests) d) k e) (eqb k number) refl
  where
    by : FirstFails k tests → (b : Bool) → eqb k number ≡ b → Either b (true ≡ false) ((true ≡ true) × FirstFails k tests)
    by later true same =
        absurd (not_decided number tests (both_left (unused number tests) (distinct tests) d) (e ∙ eqb-true k number same))
    by later false other = (refl, later)
decided_fails (needs false number ∷ tests) d k e =
    subst (λ (b : Bool). Either b (false ≡ false) ((false ≡ true) × FirstFails k tests)) (sym (eq-eqb k number (sym e))) refl

fails_decided : (tests : List (Test ℕ)) (k : ℕ) → FirstFails k tests → decide tests 0 ≡ k
fails_decided [] k f = sym f
fails_decided (needs true number ∷ tests) k f = by (fails_decided tests k) (eqb k number) f
  where
    by : (FirstFails k tests → decide tests 0 ≡ k) → (b : Bool) → Either b (true ≡ false) ((true ≡ true) × FirstFails k tests)
        → decide tests 0 ≡ k
    by later true never = absurd (true≢false never)
    by later false rest = later rest.1
fails_decided (needs false number ∷ tests) k f = by (eqb k number) refl f
  where
    by : (b : Bool) → eqb k number ≡ b → Either b (false ≡ false) ((false ≡ true) × FirstFails k tests) → number ≡ k
    by true same g = sym (eqb-true k number same)
    by false other g = absurd (true≢false (sym g.0))

-- EACH REFUSAL EXACTLY: a number comes exactly when its test is the first that fails, and 0 exactly when none fails
pub decided_exactly : (tests : List (Test ℕ)) → T (distinct tests) → (k : ℕ) → (decide tests 0 ≡ k) ↔ FirstFails k tests
decided_exactly tests d k = (decided_fails tests d k, fails_decided tests k)

-- the same where two tests may share a number
decided_with : (tests : List (Test ℕ)) (k : ℕ) → decide tests 0 ≡ k → FailsWith k tests
decided_with [] k e = sym e
decided_with (needs true number ∷ tests) k e = inr (refl, decided_with tests k e)
decided_with (needs false number ∷ tests) k e = inl (refl, sym e)

with_decided : (tests : List (Test ℕ)) (k : ℕ) → FailsWith k tests → decide tests 0 ≡ k
with_decided [] k f = sym f
with_decided (needs true number ∷ tests) k (inl f) = absurd (true≢false f.0)
with_decided (needs true number ∷ tests) k (inr f) = with_decided tests k f.1
with_decided (needs false number ∷ tests) k (inl f) = sym f.1
with_decided (needs false number ∷ tests) k (inr f) = absurd (true≢false (sym f.0))

pub decided_with_exactly : (tests : List (Test ℕ)) (k : ℕ) → (decide tests 0 ≡ k) ↔ FailsWith k tests
decided_with_exactly tests k = (decided_with tests k, with_decided tests k)

-- where the tests come to 0, and none of them has 0, another last answer comes in its place; where they don't, it makes no difference
pub decide_zero : (tests : List (Test ℕ)) (last : ℕ) → T (distinct tests) → decide tests 0 ≡ 0 → decide tests last ≡ last
decide_zero [] last d z = refl
decide_zero (needs true number ∷ tests) last d z = decide_zero tests last (both_right (unused number tests) (distinct tests) d) z
decide_zero (needs false number ∷ tests) last d z = absurd (zero_used number tests (both_left (unused number tests) (distinct tests) d) z)
  where
    zero_used : (k : ℕ) (rest : List (Test ℕ)) → T (unused k rest) → k ≡ 0 → ⊥
    zero_used k [] u e = unequal k 0 u e
    zero_used k (needs passes other ∷ rest) u e = zero_used k rest (both_right (not (eqb k other)) (unused k rest) u) e

pub decide_other : (tests : List (Test ℕ)) (last : ℕ) → (decide tests 0 ≡ 0 → ⊥) → decide tests last ≡ decide tests 0
decide_other [] last n = absurd (n refl)
decide_other (needs true number ∷ tests) last n = decide_other tests last n
decide_other (needs false number ∷ tests) last n = refl

-- every answer is the last one or a test's
abbrev pub OneOf : {A : Type 0} → (A → Type 0) → List (Test A) → Type 0
OneOf P [] = Unit {0}
OneOf P (needs passes answer ∷ tests) = P answer × OneOf P tests

pub answer_is : {A : Type 0} (P : A → Type 0) (tests : List (Test A)) (last : A) → OneOf P tests → P last → P (decide tests last)
answer_is P [] last all p = p
answer_is P (needs true answer ∷ tests) last all p = answer_is P tests last all.1 p
answer_is P (needs false answer ∷ tests) last all p = all.0

-- where every test passes, so it is with other answers
pub all_pass_relabel : {A B : Type 0} (f : A → B) (tests : List (Test A)) (last : B) → AllPass tests → decide (relabel f tests) last ≡ last
all_pass_relabel f [] last p = refl
all_pass_relabel f (needs passes answer ∷ tests) last p =
    ap (λ (b : Bool). cond b (decide (relabel f tests) last) (f answer)) p.0 ∙ all_pass_relabel f tests last p.1

-- all pass, or one fails first, and its answer comes whatever the last one is
abbrev pub Failing : {A B : Type 0} → (A → Type 0) → (A → B) → List (Test A) → Type 0
Failing {A} {B} P f tests = (a : A) × P a × (AllPass tests → ⊥) × ((last : B) → decide (relabel f tests) last ≡ f a)

pub first_failing : {A B : Type 0} (P : A → Type 0) (f : A → B) (tests : List (Test A)) → OneOf P tests → AllPass tests ⊎ Failing P f tests
first_failing P f [] all = inl tt
first_failing P f (needs false answer ∷ tests) all = inr (answer, all.0, λ p. true≢false (sym p.0), λ last. refl)
first_failing P f (needs true answer ∷ tests) all = by (first_failing P f tests all.1)
  where
    by : AllPass tests ⊎ Failing P f tests → AllPass (needs true answer ∷ tests) ⊎ Failing P f (needs true answer ∷ tests)
    by (inl p) = inl (refl, p)
    by (inr fails) = inr (fails.0, fails.1, λ p. fails.2 p.1, fails.3)
