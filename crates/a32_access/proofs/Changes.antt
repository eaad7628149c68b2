-- The change of the base as a signed number, and what a register reads as.
-- Assumes nothing.
use Rattle.std.proofs.Common.{◌≡◌, ℕ, Bool, true, false, cond, List, get_or, pos, neg_ℤ, refl, ap, ◌∙◌}
use Rattle.signed.specs.declared.Signed.TheVariants.{Plus}
use Rattle.signed.specs.Signed.{signed}
use Rattle.status.specs.Mode.{is_mode}
use Rattle.status.specs.Register.{register_number}
use Rattle.a32_fields.specs.declared.kinds.Fields.{Fields}
use Rattle.a32_access.specs.Value.{value_of}
use Rattle.a32_access.specs.Place.{up_of, back_of, signed_by, change_of}

-- a size, added or subtracted
by_sign : (u : Bool) (n : ℕ) → signed (signed_by u n) ≡ cond u (pos n) (neg_ℤ (pos n))
by_sign true n = refl
by_sign false n = refl

module _ (f : Fields) (size : ℕ) where
  -- THE CHANGE as a signed number: the offset where the base is written back, else 0
  pub change_signed : back_of f ≡ true → signed (change_of f size) ≡ cond (up_of f) (pos size) (neg_ℤ (pos size))
  change_signed h = ap (λ (b : Bool). signed (cond b (signed_by (up_of f) size) (Plus 0))) h ∙ by_sign (up_of f) size

  pub change_none : back_of f ≡ false → signed (change_of f size) ≡ pos 0
  change_none h = ap (λ (b : Bool). signed (cond b (signed_by (up_of f) size) (Plus 0))) h

-- register 13 in Supervisor mode is the state's 19
pub supervisor_stack : (regs : List ℕ) (pc : ℕ) → value_of regs pc 0x13 13 ≡ get_or regs 19 0
unfolding value_of is_mode register_number
supervisor_stack regs pc = refl
