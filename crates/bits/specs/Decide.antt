-- Tests in their order (01, 'Numbers a call may answer'): the first test that fails gives its answer, and the last answer comes exactly
-- when none fails.
use Rattle.std.specs.Prelude.{◌≡◌, Bool, true, false, cond, not, ◌&&◌, List, [], ◌∷◌, ◌⊎◌, ℕ, eqb}

-- a test, and the answer where it fails
pub data Test (A : Type 0) : Type 0 where
  needs : Bool → A → Test A

abbrev pub decide : {A : Type 0} → List (Test A) → A → A
decide [] last = last
decide (needs passes answer ∷ tests) last = cond passes (decide tests last) answer

-- the same tests, each with another answer
abbrev pub relabel : {A B : Type 0} → (A → B) → List (Test A) → List (Test B)
relabel f [] = []
relabel f (needs passes answer ∷ tests) = needs passes (f answer) ∷ relabel f tests

-- every test passes
abbrev pub AllPass : {A : Type 0} → List (Test A) → Type 0
AllPass [] = Unit {0}
AllPass (needs passes answer ∷ tests) = (passes ≡ true) × AllPass tests

-- one statement or another, as a test says
abbrev pub Either : Bool → Type 0 → Type 0 → Type 0
Either true A B = A
Either false A B = B

-- the test with a number is the first that fails; for 0, no test fails
abbrev pub FirstFails : ℕ → List (Test ℕ) → Type 0
FirstFails k [] = k ≡ 0
FirstFails k (needs passes number ∷ tests) = Either (eqb k number) (passes ≡ false) ((passes ≡ true) × FirstFails k tests)

-- a number is none of the tests'
abbrev pub unused : ℕ → List (Test ℕ) → Bool
unused k [] = not (eqb k 0)
unused k (needs passes number ∷ tests) = not (eqb k number) && unused k tests

-- no two tests have one number, and none has 0
abbrev pub distinct : List (Test ℕ) → Bool
distinct [] = true
distinct (needs passes number ∷ tests) = unused number tests && distinct tests

-- the first test that fails has a number, where two tests may share one; for 0, no test fails
abbrev pub FailsWith : ℕ → List (Test ℕ) → Type 0
FailsWith k [] = k ≡ 0
FailsWith k (needs passes number ∷ tests) = ((passes ≡ false) × (k ≡ number)) ⊎ ((passes ≡ true) × FailsWith k tests)
