-- What a call promises of its answer (01, 'Numbers a call may answer'), whatever the type of its answers.
use Rattle.std.specs.Prelude.{ℕ, ◌≡◌, cond, List, eqb}
use Rattle.bits.specs.Decide.{Test, decide}

-- what goes with refusal 6 alone
abbrev pub six_only : ℕ → ℕ → ℕ
six_only number value = cond (eqb number 6) value 0

-- the paper's number, mask and number of ones of each answer of a type
pub record Numbers (X : Type 0) : Type 0 where
  pub number : X → ℕ
  pub mask : X → ℕ
  pub count : X → ℕ

-- THE PROMISE of a call: the answer a is x; its number is k; and with 6 alone it carries the mask m and the count c
pub record Promise {X : Type 0} (said : Numbers X) (x : X) (k m c : ℕ) (a : X) : Type 0 where
  pub answer : a ≡ x
  pub number : said.number a ≡ k
  pub mask : said.mask a ≡ six_only (said.number a) m
  pub count : said.count a ≡ six_only (said.number a) c

-- of answers none of which is refusal 6: "every other refusal carries mask 0 and number 0"
abbrev pub plain : {X : Type 0} → (X → ℕ) → Numbers X
plain number = record { number = number; mask = λ x. 0; count = λ x. 0 }

-- THE PROMISE of a call that never answers 6: the answer a is x, and the first of its tests that fails gives its number
abbrev pub Answers : {X : Type 0} → (X → ℕ) → X → List (Test ℕ) → X → Type 0
Answers number x tests a = Promise (plain number) x (decide tests 0) 0 0 a
