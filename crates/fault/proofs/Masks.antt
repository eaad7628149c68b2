-- Bits that a mask takes and a shift moves.
use mathlib.Core.Path.{◌≡◌, ap, ap₂, ◌∙◌}
use Prim.Native.Nat.{ℕ, ◌+◌, ◌*◌, ◌/◌, ◌%◌, ◌^◌}
use native.Mathlib.Omega.{arith}
use lib.Bits.{bit_and, bit_or, and_high, or_shifted, or_shifted_r}

-- the domain, from bit 4 on
pub domain_moved : (d : ℕ) → bit_and d 15 * 16 % 2 ^ 32 ≡ d / 2 ^ 0 % 2 ^ 4 * 2 ^ 4
domain_moved d = let e : bit_and d 15 ≡ d / 2 ^ 0 % 2 ^ 4 * 2 ^ 0 = and_high d 4 0 in omega arith

-- STATUS stands below bit 9
pub long_status : (c : ℕ) → bit_or (bit_and c 63) 512 ≡ 2 ^ 9 + c / 2 ^ 0 % 2 ^ 6
long_status c =
    let e : bit_and c 63 ≡ c / 2 ^ 0 % 2 ^ 6 * 2 ^ 0 = and_high c 6 0 in
    let f : bit_and c 63 ≡ c / 2 ^ 0 % 2 ^ 6 = omega arith in
    ap (λ (n : ℕ). bit_or n 512) f ∙ or_shifted_r 1 9 (c / 2 ^ 0 % 2 ^ 6) (omega arith)

-- FS bit 4 moves to bit 10, and FS 3:0 stands below it
pub short_status : (c : ℕ) → bit_or (bit_and c 16 * 64 % 2 ^ 32) (bit_and c 15) ≡ c / 2 ^ 4 % 2 * 2 ^ 10 + c / 2 ^ 0 % 2 ^ 4
short_status c =
    let e : bit_and c 15 ≡ c / 2 ^ 0 % 2 ^ 4 * 2 ^ 0 = and_high c 4 0 in
    let f : bit_and c 16 ≡ c / 2 ^ 4 % 2 * 2 ^ 4 = and_high c 1 4 in
    let low : bit_and c 15 ≡ c / 2 ^ 0 % 2 ^ 4 = omega arith in
    let high : bit_and c 16 * 64 % 2 ^ 32 ≡ c / 2 ^ 4 % 2 * 2 ^ 10 = omega arith in
    ap₂ bit_or high low ∙ or_shifted (c / 2 ^ 4 % 2) 10 (c / 2 ^ 0 % 2 ^ 4) (omega arith)
