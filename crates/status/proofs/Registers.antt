-- Laws of the register of a mode, in each accepted mode: no two registers are one, and each number is below 31 and never 15.
use mathlib.Core.Path.{◌≡◌, sym, ap₂, ◌∙◌}
use mathlib.Core.Bool.{Bool, true, false, not, ◌&&◌, ◌||◌, true≢false}
use Prim.Native.Nat.{ℕ, ◌+◌, ◌*◌, ◌/◌, ◌%◌, ◌≤◌, ◌<◌}
use native.Mathlib.Omega.{arith}
use lib.Dec.{T, eqb, ltb}
use borrow.Author.Tests.{eq-eqb, eqb-true, ltb-true, not-true}
use Rattle.bits.proofs.Booleans.{and_left, and_right, holds}
use Rattle.bits.proofs.Every.{agree, below}
use Rattle.status.specs.Mode.{is_mode}
use Rattle.status.specs.Register.{register_number}
use Rattle.status.proofs.Modes.{mode_below}

implied : (a b : Bool) → a ≡ true → (not a || b) ≡ true → b ≡ true
implied true b p q = q
implied false b p q = absurd (true≢false (sym p))

-- a test of a mode and a number, in every mode and at every number below a bound: antt computes it
abbrev everywhere : (ℕ → ℕ → Bool) → ℕ → Bool
everywhere test bound = agree (λ m. not (is_mode m) || agree (test m) (λ k. true) bound) (λ m. true) 32

in_mode : (test : ℕ → ℕ → Bool) (bound : ℕ) → T (everywhere test bound) → (m : ℕ) → is_mode m ≡ true → (k : ℕ) → k < bound → test m k ≡ true
in_mode test bound t m mode k h = below (test m) (λ k. true) bound (holds (implied (is_mode m) (agree (test m) (λ k. true) bound) mode at))
    k h
  where
    at : (not (is_mode m) || agree (test m) (λ k. true) bound) ≡ true
    at = below (λ m. not (is_mode m) || agree (test m) (λ k. true) bound) (λ m. true) 32 t m (mode_below m mode)

-- each register has one of the 31 numbers, and none has 15
in_range : ℕ → ℕ → Bool
in_range m n = ltb (register_number m n) 31 && not (eqb (register_number m n) 15)

range : T (everywhere in_range 15)
unfolding in_range register_number is_mode
range = tt

module _ (m : ℕ) (mode : is_mode m ≡ true) (n : ℕ) (h : n ≤ 14) where
  inside : in_range m n ≡ true
  inside = in_mode in_range 15 range m mode n (omega arith)

  pub number_below : register_number m n < 31
  unfolding in_range
  number_below = ltb-true _ _ (and_left (ltb (register_number m n) 31) (not (eqb (register_number m n) 15)) inside)

  pub number_not_pc : eqb (register_number m n) 15 ≡ false
  unfolding in_range
  number_not_pc = not-true _ (and_right (ltb (register_number m n) 31) (not (eqb (register_number m n) 15)) inside)

-- two registers as one number, and that they differ or are one
differ : ℕ → ℕ → Bool
differ m p = not (eqb (register_number m (p / 15)) (register_number m (p % 15))) || eqb (p / 15) (p % 15)

pairs : T (everywhere differ 225)
unfolding differ register_number is_mode
pairs = tt

-- NO TWO REGISTERS of a mode are one
pub number_injective : (m : ℕ) → is_mode m ≡ true → (n k : ℕ) → n ≤ 14 → k ≤ 14 → register_number m n ≡ register_number m k → n ≡ k
unfolding differ
number_injective m mode n k hn hk same = eqb-true n k (implied (eqb (register_number m n) (register_number m k)) (eqb n k) (eq-eqb _ _ same) at)
  where
    at : (not (eqb (register_number m n) (register_number m k)) || eqb n k) ≡ true
    at =
        let first : (n * 15 + k) / 15 ≡ n = omega arith in
        let second : (n * 15 + k) % 15 ≡ k = omega arith in
        sym (ap₂ (λ (a b : ℕ). not (eqb (register_number m a) (register_number m b)) || eqb a b) first second)
        ∙ in_mode differ 225 pairs m mode (n * 15 + k) (omega arith)
