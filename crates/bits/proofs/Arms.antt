-- What an arm of a `match` shows of its own fields holds of the value that was matched; and two answers that can't be one.
-- Assumes nothing.
use mathlib.Core.Path.{◌≡◌, ◌∙◌, sym, ap}
use Prim.Native.Nat.{ℕ}
use native.Mathlib.Omega.{arith}

-- what a definition says of a value that is known to be another
pub told : {A B : Type 0} (f : A → B) {a b : A} → a ≡ b → f b ≡ f a
told f e = sym (ap f e)

pub at_arm : {A B : Type 0} (f : A → B) {whole part : A} {answer : B} → answer ≡ f part → whole ≡ part → answer ≡ f whole
at_arm f shown same = shown ∙ told f same

pub absurd_answer : {A : Type 0} → ◌≡◌ {A = ℕ} 0 1 → A
absurd_answer z = absurd (omega arith)
