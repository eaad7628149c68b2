-- The masks of the rules that go by the edition. Each rule is a test of the edition over tests of the fields.
-- Assumes nothing.
use mathlib.Core.Path.{◌≡◌, ◌∙◌, sym}
use mathlib.Core.Bool.{Bool, true, false, cond, not, ◌&&◌, ◌||◌, and-false, or_assoc}
use Prim.Native.Nat.{ℕ, ◌≤◌}
use native.Mathlib.Omega.{arith}
use borrow.Author.Tests.{lt-leb, ne_eqb}
use Rattle.edition.specs.Feature.{editions, ras}
use Rattle.edition.specs.Mask.{mask_below, mask_of}
use Rattle.edition.proofs.Masks.{mask_same, mask_either}
use Rattle.iss.specs.Rule.{mmu_fault, isv_code}
use Rattle.bits.specs.Test.{between}
use Rattle.bits.proofs.Booleans.{either_false}
use Rattle.fault_code.specs.Code.{data_code, instruction_code, data_only_code, isv_rule}

-- a code is allowed by itself where ISV is 0 or it is an MMU fault, else in some editions
pub mask_isv : (n : ℕ) (isv : Bool) (code : ℕ)
    → mask_below n (λ e. isv_code (ras e) isv code)
    ≡ cond (not isv || mmu_fault code) (mask_below n (λ e. true)) (cond (between 0x13 0x17 code) (mask_below n (λ e. not (ras e))) 0)
mask_isv n isv code =
    mask_same n (λ e. isv_code (ras e) isv code) (λ e. (not isv || mmu_fault code) || not (ras e) && between 0x13 0x17 code)
    (λ e h. sym (or_assoc (not isv) (mmu_fault code) (not (ras e) && between 0x13 0x17 code)))
    ∙ mask_either n (not isv || mmu_fault code) (between 0x13 0x17 code) (λ e. not (ras e))

pub isv_mask : (isv : Bool) (code : ℕ)
    → mask_of (λ e. isv_rule e isv code) ≡ cond (not isv || mmu_fault code) (mask_of (λ e. true))
    (cond (between 0x13 0x17 code) (mask_of (λ e. not (ras e))) 0)
unfolding mask_of
isv_mask = mask_isv editions

-- a code that no table has room for is no edition's
pub no_code : (e code : ℕ) → 64 ≤ code → data_code e code ≡ false
no_code e code h =
    simp (
      lt-leb code 0x07 (omega arith),
      lt-leb code 0x0B (omega arith),
      lt-leb code 0x0F (omega arith),
      lt-leb code 0x17 (omega arith),
      lt-leb code 0x1F (omega arith),
      ne_eqb code 0x08 (omega arith),
      ne_eqb code 0x0C (omega arith),
      ne_eqb code 0x10 (omega arith),
      ne_eqb code 0x13 (omega arith),
      ne_eqb code 0x18 (omega arith),
      ne_eqb code 0x1B (omega arith),
      ne_eqb code 0x21 (omega arith),
      ne_eqb code 0x29 (omega arith),
      ne_eqb code 0x2B (omega arith),
      ne_eqb code 0x30 (omega arith),
      ne_eqb code 0x31 (omega arith),
      ne_eqb code 0x34 (omega arith),
      ne_eqb code 0x35 (omega arith),
      and-false,
    )

pub no_instruction_code : (e code : ℕ) → 64 ≤ code → instruction_code e code ≡ false
no_instruction_code e code h = either_false (instruction_code e code) (data_only_code code) (no_code e code h)
