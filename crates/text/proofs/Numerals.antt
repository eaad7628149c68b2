-- The fewest digits that hold a number are its numeral, and how long a numeral can be.
-- Assumes nothing.
use mathlib.Core.Path.{◌≡◌, ap}
use mathlib.Core.Bool.{Bool, true, false, cond}
use mathlib.Core.List.{[], ◌∷◌, ◌++◌}
use Prim.Native.Nat.{ℕ, zero, suc, ◌-◌, ◌*◌, ◌/◌, ◌%◌, ◌^◌, ◌≤◌, ◌<◌}
use native.Mathlib.Nat.{mod-eq_of_lt, div-lt_iff_lt-mul, le-div_iff_mul-le, pow-suc, pow-zero, one-le-pow, pow-le-pow_right, one-mul}
use native.Mathlib.Nat.{mul-le-mul_right}
use native.Mathlib.Decide.{dec_le}
use native.Mathlib.Omega.{arith}
use lib.Dec.{ltb}
use lib.ListN.{length, length-append}
use borrow.Author.Tests.{lt-ltb, le-ltb}
use Rattle.io.specs.Digits.{last_digits, hex_digit_ascii, IsDigitCount}
use Rattle.text.specs.Numeral.{numeral, decimal_text, hex_text}

module _ (base : ℕ) (b : 1 < base) where
  positive : 0 < base
  positive = omega arith

  -- a number of two digits or more is no less than the power of its first digit's place, and so than the base
  least : (k n : ℕ) → IsDigitCount base 1 n (suc (suc k)) → base ^ suc k ≤ n
  least k n f =
      let shorter : suc (suc k) - 1 ≡ suc k = omega arith in
      rw shorter at (f.2 (omega arith))

  large : (k n : ℕ) → IsDigitCount base 1 n (suc (suc k)) → base ≤ n
  large k n f =
      let power : 1 * base ≤ base ^ k * base = mul-le-mul_right base (one-le-pow k base positive) in
      let here : base ^ k * base ≤ n = rw pow-suc at (least k n f) in
      omega arith

  fewer : (k n : ℕ) → IsDigitCount base 1 n (suc (suc k)) → IsDigitCount base 1 (n / base) (suc k)
  fewer k n f =
      let shorter : suc k - 1 ≡ k = omega arith in (
        omega arith,
        (div-lt_iff_lt-mul positive).1 (rw pow-suc at f.1),
        λ more. (le-div_iff_mul-le positive).1 (rw (shorter, ← pow-suc) (least k n f)),
      )

  fewest_numeral : (most k n : ℕ) → k ≤ most → IsDigitCount base 1 n k → last_digits base k n ≡ numeral most base n
  fewest_numeral most zero n room f = absurd (omega arith)
  fewest_numeral zero (suc k) n room f = absurd (omega arith)
  fewest_numeral (suc most) (suc zero) n room f =
      let small : n < base = rw (pow-suc, pow-zero, one-mul) at f.1 in
      simp (lt-ltb n base small, mod-eq_of_lt small)
  fewest_numeral (suc most) (suc (suc k)) n room f =
      simp (le-ltb n base (large k n f))
      (ap (λ ds. ds ++ (hex_digit_ascii (n % base) ∷ [])) (fewest_numeral most (suc k) (n / base) (omega arith) (fewer k n f)))

  -- a number below base ^ most has no more than `most` digits
  few : (most k n : ℕ) → 0 < most → n < base ^ most → IsDigitCount base 1 n k → Dec (k ≤ most) → k ≤ most
  few most k n some small f (yes h) = h
  few most k n some small f (no h) =
      let power : base ^ most ≤ base ^ (k - 1) = pow-le-pow_right positive (omega arith) in
      let here : base ^ (k - 1) ≤ n = f.2 (omega arith) in
      absurd (omega arith)

  pub digits_numeral : (most k n : ℕ) → 0 < most → n < base ^ most → IsDigitCount base 1 n k → last_digits base k n ≡ numeral most base n
  digits_numeral most k n some small f = fewest_numeral most k n (few most k n some small f (dec_le k most)) f

pub numeral_length : (most base n : ℕ) → length (numeral most base n) ≤ most
numeral_length zero base n = omega arith
numeral_length (suc most) base n = go (ltb n base) (numeral_length most base (n / base))
  where
    go : (t : Bool) → length (numeral most base (n / base)) ≤ most
        → length (cond t (hex_digit_ascii n ∷ []) (numeral most base (n / base) ++ (hex_digit_ascii (n % base) ∷ []))) ≤ suc most
    go true h = omega arith
    go false h = simp length-append (omega arith)

pub decimal_length : (n : ℕ) → length (decimal_text n) ≤ 20
unfolding decimal_text
decimal_length n = numeral_length 20 10 n

pub hex_length : (n : ℕ) → length (hex_text n) ≤ 16
unfolding hex_text
hex_length n = numeral_length 16 16 n
