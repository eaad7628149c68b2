-- A GUEST WITH NO MARK behaves as before request C-15: sound words, and new status words with F kept, are those of the base.
use mathlib.Core.Path.{◌≡◌, refl, ap, ap₂, ◌∙◌}
use mathlib.Core.Bool.{Bool, true, false, not, ◌&&◌}
use Prim.Native.Nat.{ℕ, ◌+◌, ◌*◌, ◌/◌, ◌%◌, ◌^◌, ◌<◌}
use native.Mathlib.Omega.{arith}
use lib.Dec.{eqb}
use borrow.Author.Tests.{eqb-true}
use Rattle.bits.specs.Field.{field_of}
use Rattle.bits.proofs.Every.{below}
use Rattle.status.specs.declared.Mode.{Mode}
use Rattle.status.specs.Mode.{is_mode, mode_number}
use Rattle.status.specs.Base.{unmarked, base_sound, kept, entry_a, base_entry_status}
use Rattle.status.specs.Sound.{sound}
use Rattle.status.specs.Entry.{entry_status}

-- the four bits of a field are 0 exactly when the field is, which antt computes at all 16
abbrev none : Bool → ℕ → Bool
none m x = m && not (eqb (x / 2 ^ 3 % 2) 1) && not (eqb (x / 2 ^ 2 % 2) 1) && not (eqb (x / 2 ^ 1 % 2) 1) && not (eqb (x / 2 ^ 0 % 2) 1)

zero_bits : (m : Bool) (x : ℕ) → x < 16 → none m x ≡ (m && eqb x 0)
zero_bits true x h = below (none true) (λ y. eqb y 0) 16 tt x h
zero_bits false x h = refl

module _ (w : ℕ) where
  abbrev x : ℕ
  x = field_of w 24 21

  bit_24 : field_of w 24 24 ≡ x / 2 ^ 3 % 2
  bit_24 = omega arith

  bit_23 : field_of w 23 23 ≡ x / 2 ^ 2 % 2
  bit_23 = omega arith

  bit_22 : field_of w 22 22 ≡ x / 2 ^ 1 % 2
  bit_22 = omega arith

  bit_21 : field_of w 21 21 ≡ x / 2 ^ 0 % 2
  bit_21 = omega arith

same : {a b : ℕ} → a ≡ b → not (eqb a 1) ≡ not (eqb b 1)
same = ap (λ (n : ℕ). not (eqb n 1))

pub unmarked_sound : (w : ℕ) → sound unmarked w ≡ base_sound w
unfolding sound base_sound
unmarked_sound w =
    ap₂ ◌&&◌ (ap₂ ◌&&◌ (ap₂ ◌&&◌ (ap (λ (b : Bool). is_mode (field_of w 4 0) && b) (same (bit_24 w))) (same (bit_23 w))) (same (bit_22 w)))
    (same (bit_21 w))
    ∙ zero_bits (is_mode (field_of w 4 0)) (field_of w 24 21) (omega arith)

-- the four bits, each in its place, are the field in its place
abbrev placed : ℕ → ℕ
placed x = x / 2 ^ 3 % 2 * 2 ^ 24 + x / 2 ^ 2 % 2 * 2 ^ 23 + x / 2 ^ 1 % 2 * 2 ^ 22 + x / 2 ^ 0 % 2 * 2 ^ 21

whole : (x : ℕ) → x < 16 → placed x ≡ x * 2 ^ 21
whole x h = eqb-true (placed x) (x * 2 ^ 21) (below (λ y. eqb (placed y) (y * 2 ^ 21)) (λ y. true) 16 tt x h)

four : (old : ℕ) → kept old 24 24 + kept old 23 23 + kept old 22 22 + kept old 21 21 ≡ kept old 24 21
four old =
    ap₂ ◌+◌
    (ap₂ ◌+◌
    (ap₂ ◌+◌ (ap (λ (n : ℕ). n * 2 ^ 24) (bit_24 old)) (ap (λ (n : ℕ). n * 2 ^ 23) (bit_23 old)))
    (ap (λ (n : ℕ). n * 2 ^ 22) (bit_22 old)))
    (ap (λ (n : ℕ). n * 2 ^ 21) (bit_21 old))
    ∙ whole (field_of old 24 21) (omega arith)

beside : (n j s p d : ℕ) {x : ℕ} → j + s + p + d ≡ x → n + j + s + p + d ≡ n + x
beside n j s p d e = omega arith

pub unmarked_entry : (m : Mode) (a : Bool) (old sctlr : ℕ) → entry_status unmarked m a false old sctlr ≡ base_entry_status m a old sctlr
unfolding entry_status base_entry_status
unmarked_entry m a old sctlr =
    ap (λ (n : ℕ). n + kept old 19 16 + field_of sctlr 25 25 * 2 ^ 9 + entry_a a old * 2 ^ 8 + 1 * 2 ^ 7 + kept old 6 6
    + field_of sctlr 30 30 * 2 ^ 5 + mode_number m)
    (beside (kept old 31 27) (kept old 24 24) (kept old 23 23) (kept old 22 22) (kept old 21 21) (four old))
