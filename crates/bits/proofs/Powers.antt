-- Powers of two: shifts, and numbers that are cut to a width.
-- Assumes nothing.
use mathlib.Core.Path.{◌≡◌, ◌∙◌, sym, ap}
use Prim.Native.Nat.{ℕ, ◌-◌, ◌*◌, ◌/◌, ◌%◌, ◌^◌, ◌≤◌, ◌<◌}
use native.Mathlib.Nat.{one-mul, mul_assoc, lt_of_lt_of_le, sub-add_cancel, mod-eq_of_lt, div-eq_of_lt, mod-lt, zero-mod, mul-mod_left}
use native.Mathlib.Omega.{arith}
use lib.Dec.{lit<}
use lib.Pow.{pow_pos, pow_mono, pow-add, shl_exact}
use Rattle.bits.specs.Field.{width_of, field_of}

-- 1 shifted left within 64 bits
pub one_shifted : (k : ℕ) → k < 64 → 1 * 2 ^ k % 2 ^ 64 ≡ 2 ^ k
one_shifted k h = shl_exact 1 k 64 (lit< tt) (omega arith) ∙ one-mul (2 ^ k)

-- a number of 64 bits, cut to 64 bits or more, is itself
pub cut_wide : (n k : ℕ) → n < 2 ^ 64 → 64 ≤ k → n % 2 ^ k ≡ n
cut_wide n k hn hk = mod-eq_of_lt (lt_of_lt_of_le hn (pow_mono hk))

-- a word of 64 bits has no bit from 64 on
pub field_out : (word high low : ℕ) → word < 2 ^ 64 → 64 ≤ low → field_of word high low ≡ 0
field_out word high low hw hl =
    ap (λ (n : ℕ). n % 2 ^ width_of high low) (div-eq_of_lt (lt_of_lt_of_le hw (pow_mono hl))) ∙ zero-mod (2 ^ width_of high low)

-- a field of one bit
pub one_bit : (word n : ℕ) → field_of word n n ≡ word / 2 ^ n % 2 ^ 1
one_bit word n =
    let one : width_of n n ≡ 1 = omega arith in
    ap (λ (k : ℕ). word / 2 ^ n % 2 ^ k) one

-- a field is below the power of two of its width
pub field_below : (word high low k : ℕ) → width_of high low ≤ k → field_of word high low < 2 ^ k
field_below word high low k h = lt_of_lt_of_le (mod-lt (word / 2 ^ low) (pow_pos (width_of high low))) (pow_mono h)

-- a shift by the larger of two numbers goes by way of the smaller
pub shift_by_way : (n : ℕ) {low top : ℕ} → low ≤ top → n * 2 ^ top ≡ n * 2 ^ (top - low) * 2 ^ low
shift_by_way n {low} {top} h =
    ap (λ (k : ℕ). n * 2 ^ k) (sym (sub-add_cancel h)) ∙ ap (λ (x : ℕ). n * x) (pow-add 2 (top - low) low)
    ∙ sym (mul_assoc n (2 ^ (top - low)) (2 ^ low))

-- a number shifted left by 64 or more leaves nothing in 64 bits
pub shifted_over : (n k : ℕ) → 64 ≤ k → n * 2 ^ k % 2 ^ 64 ≡ 0
shifted_over n k h = ap (λ (x : ℕ). x % 2 ^ 64) (shift_by_way n h) ∙ mul-mod_left (n * 2 ^ (k - 64)) (2 ^ 64)
