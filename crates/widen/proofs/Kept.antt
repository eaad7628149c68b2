-- What the change keeps, for every mode number and record: the class, every field that isn't a register, and an UNKNOWN Rn; and what a
-- mapped register is. Assumes nothing.
use mathlib.Core.Path.{◌≡◌, refl, ◌∙◌, sym, ap, ap₂}
use mathlib.Core.Bool.{Bool, true, false, cond, ◌&&◌}
use Prim.Native.Nat.{ℕ, ◌≤◌, ◌<◌}
use lib.Dec.{eqb}
use borrow.Author.Tests.{le-leb}
use Rattle.std.specs.Prelude.{Some, None}
use Rattle.std.specs.Option.{unwrap_or}
use Rattle.record.specs.Class.{head_of as long_head}
use Rattle.short_record.specs.Class.{head_of as short_head}
use Rattle.short_record.specs.declared.kinds.Record.{Record as Short}
use Rattle.status.specs.Mode.{is_mode}
use Rattle.status.specs.Register.{register_number}
use Rattle.status.proofs.Registers.{number_below, number_not_pc, number_injective}
use Rattle.widen.specs.Register.{mapped, literal, base}
use Rattle.widen.specs.Long.{long_of}
use Rattle.widen.specs.Kept.{short_kept, long_kept}

pub class_kept : (mode : ℕ) (r : Short) → (long_head (long_of mode r)).class ≡ (short_head r).class
class_kept mode (Short.Plain r) = refl
class_kept mode (Short.Wfx r) = refl
class_kept mode (Short.Mcr r) = refl
class_kept mode (Short.Mcrr r) = refl
class_kept mode (Short.Ldc r) = refl
class_kept mode (Short.Simd r) = refl
class_kept mode (Short.Call r) = refl
class_kept mode (Short.Smc r) = refl
class_kept mode (Short.InstructionAbort r) = refl
class_kept mode (Short.DataAbort r) = refl

pub fields_kept : (mode : ℕ) (r : Short) → long_kept (long_of mode r) ≡ short_kept r
fields_kept mode (Short.Plain r) = refl
fields_kept mode (Short.Wfx r) = refl
fields_kept mode (Short.Mcr r) = refl
fields_kept mode (Short.Mcrr r) = refl
fields_kept mode (Short.Ldc r) = refl
fields_kept mode (Short.Simd r) = refl
fields_kept mode (Short.Call r) = refl
fields_kept mode (Short.Smc r) = refl
fields_kept mode (Short.InstructionAbort r) = refl
fields_kept mode (Short.DataAbort r) = refl

-- an UNKNOWN Rn stays as found, whatever it is
pub unknown_kept : (mode am rn : ℕ) → literal am ≡ true → base mode am rn ≡ rn
unknown_kept mode am rn l = ap (λ (b : Bool). cond b rn (mapped mode rn)) l

-- in an accepted mode R0 to R14 are mapped by the manual's table
module _ (mode : ℕ) (accepted : is_mode mode ≡ true) where
  pub mapped_number : (n : ℕ) → n ≤ 14 → mapped mode n ≡ register_number mode n
  mapped_number n h =
      ap₂ (λ (a b : Bool). unwrap_or (cond (a && b) (Some (register_number mode n)) None) n) accepted (le-leb n 14 h)

  pub mapped_below : (n : ℕ) → n ≤ 14 → mapped mode n < 31
  mapped_below n h = rw (mapped_number n h) (number_below mode accepted n h)

  pub mapped_not_pc : (n : ℕ) → n ≤ 14 → eqb (mapped mode n) 15 ≡ false
  mapped_not_pc n h = ap (λ (k : ℕ). eqb k 15) (mapped_number n h) ∙ number_not_pc mode accepted n h

  pub mapped_injective : (n k : ℕ) → n ≤ 14 → k ≤ 14 → mapped mode n ≡ mapped mode k → n ≡ k
  mapped_injective n k hn hk same =
      number_injective mode accepted n k hn hk (sym (mapped_number n hn) ∙ same ∙ mapped_number k hk)
