-- The masks of the rules that go by the edition.
-- Assumes nothing.
use mathlib.Core.Path.{◌≡◌}
use mathlib.Core.Bool.{Bool, false, cond, ◌&&◌, and-false}
use Prim.Native.Nat.{ℕ, ◌≤◌}
use native.Mathlib.Omega.{arith}
use borrow.Author.Tests.{lt-leb, ne_eqb}
use lib.Bits.{bit_and}
use Rattle.edition.proofs.Masks.{mask_and, mask_known}
use Rattle.short_rule.specs.Edition.{editions, is_edition, mask_of}
use Rattle.short_rule.specs.Code.{instruction_code, data_code}

-- a code that no table has room for is no edition's
pub no_instruction_code : (e code : ℕ) → 64 ≤ code → instruction_code e code ≡ false
no_instruction_code e code h =
    simp (
      lt-leb code 0x03 (omega arith),
      lt-leb code 0x07 (omega arith),
      lt-leb code 0x0B (omega arith),
      lt-leb code 0x0F (omega arith),
      lt-leb code 0x17 (omega arith),
      lt-leb code 0x1F (omega arith),
      ne_eqb code 0x10 (omega arith),
      ne_eqb code 0x18 (omega arith),
      ne_eqb code 0x22 (omega arith),
      ne_eqb code 0x30 (omega arith),
      and-false,
    )

pub no_code : (e code : ℕ) → 64 ≤ code → data_code e code ≡ false
no_code e code h =
    simp (
      no_instruction_code e code h,
      ne_eqb code 0x11 (omega arith),
      ne_eqb code 0x19 (omega arith),
      ne_eqb code 0x21 (omega arith),
      ne_eqb code 0x34 (omega arith),
      ne_eqb code 0x35 (omega arith),
      and-false,
    )

-- `&` of two masks is the mask of both tests
pub both_masks : (p q : ℕ → Bool) → bit_and (mask_of p) (mask_of q) ≡ mask_of (λ e. p e && q e)
unfolding mask_of
both_masks = mask_and editions

-- a rule of the edition, kept where a test of the record holds
pub edition_mask : (b : Bool) (rule : ℕ → Bool) → cond b (mask_of rule) 0 ≡ mask_of (λ e. is_edition e && b && rule e)
unfolding mask_of
edition_mask = mask_known editions
