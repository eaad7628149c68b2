-- Laws of a read to the flags: N, Z, C and V are the value's bits 31:28, every other bit stays, and a sound word stays sound.
use mathlib.Core.Path.{◌≡◌, refl, sym, ap₂, ◌∙◌}
use mathlib.Core.Bool.{Bool, true, false, cond}
use Prim.Native.Nat.{ℕ, ◌+◌, ◌*◌, ◌^◌, ◌<◌}
use native.Mathlib.Omega.{arith}
use lib.Dec.{eqb}
use Rattle.bits.specs.Field.{field_of}
use Rattle.status.specs.declared.Marks.{Marks}
use Rattle.status.specs.Sound.{sound}
use Rattle.status.proofs.Advance.{sound_by, by_parts}
use Rattle.coprocessor.specs.Flags.{with_flags, status_after}

-- a sum of the two fields, each in its place and within its width: 31:28 and 27:0
module _ (f l : ℕ) (hf : f < 16) (hl : l < 2 ^ 28) where
  abbrev word : ℕ
  word = f * 2 ^ 28 + l * 2 ^ 0

  digits : (field_of word 31 28 ≡ f) × (field_of word 27 0 ≡ l) × (field_of word 9 0 ≡ field_of l 9 0) × (field_of word 24 16 ≡ field_of l 24 16)
  digits = (omega arith, omega arith, omega arith, omega arith)

module _ (w value : ℕ) where
  pub flags_set : field_of (with_flags w value) 31 28 ≡ field_of value 31 28
  unfolding with_flags
  flags_set = (digits (field_of value 31 28) (field_of w 27 0) (omega arith) (omega arith)).0

  pub flags_kept : field_of (with_flags w value) 27 0 ≡ field_of w 27 0
  unfolding with_flags
  flags_kept = (digits (field_of value 31 28) (field_of w 27 0) (omega arith) (omega arith)).1

  low : field_of (with_flags w value) 9 0 ≡ field_of w 9 0
  unfolding with_flags
  low = (digits (field_of value 31 28) (field_of w 27 0) (omega arith) (omega arith)).2 ∙ omega arith

  high : field_of (with_flags w value) 24 16 ≡ field_of w 24 16
  unfolding with_flags
  high = (digits (field_of value 31 28) (field_of w 27 0) (omega arith) (omega arith)).3 ∙ omega arith

  pub sound_flags : (marks : Marks) → sound marks (with_flags w value) ≡ sound marks w
  sound_flags marks = by_parts marks (with_flags w value) ∙ ap₂ (sound_by marks) low high ∙ sym (by_parts marks w)

  -- whatever the register
  pub sound_status : (marks : Marks) (rt : ℕ) → sound marks (status_after w rt value) ≡ sound marks w
  sound_status marks rt = go (eqb rt 31)
    where
      go : (b : Bool) → sound marks (cond b (with_flags w value) w) ≡ sound marks w
      go true = sound_flags marks
      go false = refl
