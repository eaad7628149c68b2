-- Two tests that agree at every number below a bound: antt computes both at each number.
use mathlib.Core.Path.{◌≡◌, refl, sym, subst}
use mathlib.Core.Bool.{Bool, true, false, ◌&&◌, beq}
use Prim.Native.Nat.{ℕ, zero, suc, ◌<◌}
use native.Mathlib.Nat.{not-suc-le-zero}
use native.Mathlib.Omega.{arith}
use lib.Dec.{T, ltb}
use borrow.Author.Tests.{ltb-true, ltb-false}
use Rattle.bits.proofs.Booleans.{both_left, both_right}

abbrev pub agree : (ℕ → Bool) → (ℕ → Bool) → ℕ → Bool
agree f g zero = true
agree f g (suc n) = agree f g n && beq (f n) (g n)

same : (a b : Bool) → T (beq a b) → a ≡ b
same true true t = refl
same true false t = absurd t
same false true t = absurd t
same false false t = refl

pub below : (f g : ℕ → Bool) (n : ℕ) → T (agree f g n) → (k : ℕ) → k < n → f k ≡ g k
below f g zero t k h = absurd (not-suc-le-zero h)
below f g (suc n) t k h = go (below f g n (both_left (agree f g n) (beq (f n) (g n)) t) k) (ltb k n) refl
  where
    last : k ≡ n → f k ≡ g k
    last e = subst (λ (m : ℕ). f m ≡ g m) (sym e) (same (f n) (g n) (both_right (agree f g n) (beq (f n) (g n)) t))

    go : (k < n → f k ≡ g k) → (b : Bool) → ltb k n ≡ b → f k ≡ g k
    go before true e = before (ltb-true k n e)
    go before false e = last (let l = ltb-false k n e in omega arith)
