-- Laws of a load of register 15: T is bit 0 of the value, every other bit of the status word stays, and a sound word stays sound.
use mathlib.Core.Path.{◌≡◌, sym, ap, ◌∙◌}
use mathlib.Core.Bool.{Bool}
use Prim.Native.Nat.{ℕ, ◌+◌, ◌*◌, ◌^◌, ◌<◌}
use native.Mathlib.Omega.{arith}
use lib.Dec.{eqb}
use Rattle.bits.specs.Field.{field_of, digit}
use Rattle.bits.proofs.Fields.{digit_below, digit_back}
use Rattle.status.specs.declared.Marks.{Marks}
use Rattle.status.specs.Entry.{t32}
use Rattle.status.specs.Sound.{sound}
use Rattle.status.proofs.Advance.{sound_by, by_parts}
use Rattle.a32_finish.specs.Branch.{with_t}

-- a sum of the fields, each in its place and within its width: 31:6, 5 and 4:0
module _ (h t l : ℕ) (hh : h < 2 ^ 26) (ht : t < 2) (hl : l < 32) where
  abbrev word : ℕ
  word = h * 2 ^ 6 + t * 2 ^ 5 + l * 2 ^ 0

  digits : (field_of word 31 6 ≡ h) × (field_of word 5 5 ≡ t) × (field_of word 4 0 ≡ l)
  digits = (omega arith, omega arith, omega arith)

-- parts of those fields
mode_of_lem : (w : ℕ) → field_of (field_of w 9 0) 4 0 ≡ field_of w 4 0
mode_of_lem w = omega arith

high_of_lem : (w : ℕ) → field_of w 24 16 ≡ field_of (field_of w 31 6) 18 10
high_of_lem w = omega arith

module _ (w : ℕ) (t : Bool) where
  parts : (field_of (with_t w t) 31 6 ≡ field_of w 31 6) × (field_of (with_t w t) 5 5 ≡ digit t) × (field_of (with_t w t) 4 0 ≡ field_of w 4 0)
  unfolding with_t
  parts = digits (field_of w 31 6) (digit t) (field_of w 4 0) (omega arith) (digit_below t) (omega arith)

  pub t_set : t32 (with_t w t) ≡ t
  t_set = ap (λ (n : ℕ). eqb n 1) parts.1 ∙ digit_back t

  pub high_kept : field_of (with_t w t) 31 6 ≡ field_of w 31 6
  high_kept = parts.0

  pub mode_kept : field_of (with_t w t) 4 0 ≡ field_of w 4 0
  mode_kept = parts.2

  mode_same : field_of (field_of (with_t w t) 9 0) 4 0 ≡ field_of (field_of w 9 0) 4 0
  mode_same = mode_of_lem (with_t w t) ∙ mode_kept ∙ sym (mode_of_lem w)

  high_same : field_of (with_t w t) 24 16 ≡ field_of w 24 16
  high_same = high_of_lem (with_t w t) ∙ ap (λ (n : ℕ). field_of n 18 10) high_kept ∙ sym (high_of_lem w)

  pub sound_with_t : (marks : Marks) → sound marks (with_t w t) ≡ sound marks w
  sound_with_t marks = by_parts marks (with_t w t) ∙ same ∙ sym (by_parts marks w)
    where
      same : sound_by marks (field_of (with_t w t) 9 0) (field_of (with_t w t) 24 16) ≡ sound_by marks (field_of w 9 0) (field_of w 24 16)
      same = rw (mode_same, high_same)
