-- What the code's masks compute: `w & MASK` is a field of w in its place, and fields joined by `|` from the top down add up.
use mathlib.Core.Path.{◌≡◌, sym, ap, ap₂, subst, ◌∙◌}
use mathlib.Core.Bool.{true}
use Prim.Native.Nat.{ℕ, zero, suc, ◌+◌, ◌-◌, ◌*◌, ◌/◌, ◌%◌, ◌^◌, ◌<◌}
use native.Mathlib.Nat.{zero-mul, mul-pos, zero-lt-suc, not-suc-le-zero, div-one, add-zero}
use native.Mathlib.Omega.{arith}
use lib.Dec.{eqb}
use lib.Bits.{bit_and, bit_or, and_mask, and_high, or_shifted}
use lib.Pow.{pow_pos, split}
use borrow.Author.Tests.{ne_eqb, eqb-true}
use Rattle.bits.proofs.Every.{below}

-- a number and its multiple by a power of two are zero together
scaled_zero : (x k : ℕ) → eqb (x * 2 ^ k) 0 ≡ eqb x 0
scaled_zero zero k = ap (λ (n : ℕ). eqb n 0) (zero-mul (2 ^ k))
scaled_zero (suc x) k = ne_eqb (suc x * 2 ^ k) 0 (λ e. not-suc-le-zero
    (subst (λ (n : ℕ). zero < n) e (mul-pos (zero-lt-suc x) (pow_pos k)))) ∙ sym (ne_eqb (suc x) 0 (λ e. omega arith))

-- the test of a field of j bits from bit k up
pub field_zero : (w j k : ℕ) → eqb (bit_and w (2 ^ (j + k) - 2 ^ k)) 0 ≡ eqb (w / 2 ^ k % 2 ^ j) 0
field_zero w j k = ap (λ (n : ℕ). eqb n 0) (and_high w j k) ∙ scaled_zero (w / 2 ^ k % 2 ^ j) k

-- the field of j bits from bit 0 up
pub low_bits : (w j : ℕ) → bit_and w (2 ^ j - 1) ≡ w / 2 ^ 0 % 2 ^ j
low_bits w j = and_mask w j ∙ ap (λ (n : ℕ). n % 2 ^ j) (sym (div-one w))

-- the mode
pub mode_field : (w : ℕ) → bit_and w 31 ≡ w / 2 ^ 0 % 2 ^ 5
mode_field w = low_bits w 5

-- one more field: s has nothing below bit k, and v nothing else
pub or_next : (k : ℕ) {w s b v : ℕ} → w ≡ s → b ≡ v → s % 2 ^ k ≡ 0 → v < 2 ^ k → bit_or w b ≡ s + v
or_next k {s = s} {v = v} p q m h =
    ap₂ bit_or (p ∙ e) q ∙ or_shifted (s / 2 ^ k) k v h ∙ ap (λ (n : ℕ). n + v) (sym e)
  where
    e : s ≡ s / 2 ^ k * 2 ^ k
    e = sym (split s k) ∙ ap (λ (r : ℕ). s / 2 ^ k * 2 ^ k + r) m ∙ add-zero (s / 2 ^ k * 2 ^ k)

-- one bit in its place, by a mask that was shifted there
pub kept_bit : (k old : ℕ) → k < 32 → bit_and old (1 * 2 ^ k % 2 ^ 32) ≡ old / 2 ^ k % 2 * 2 ^ k
kept_bit k old h =
    ap (bit_and old) (sym (eqb-true _ _ (below (λ k. eqb (2 ^ (1 + k) - 2 ^ k) (1 * 2 ^ k % 2 ^ 32)) (λ k. true) 32 tt k h)))
    ∙ and_high old 1 k
