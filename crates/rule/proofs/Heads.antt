-- The record at the bits of a word of a known class is of its own kind, has the class, and IL where the word has it. So where class and IL
-- of a word are right, they aren't asked again of its record.
-- Assumes nothing.
use mathlib.Core.Path.{◌≡◌, refl, ◌∙◌, sym, ap, ap₂}
use mathlib.Core.Bool.{Bool, true, cond, ◌&&◌}
use Prim.Native.Nat.{ℕ}
use Rattle.bits.specs.Field.{field_of, bit_of}
use Rattle.bits.proofs.Among.{among_each}
use Rattle.record.specs.Class.{aarch32_classes, aarch64_classes, is_class, head_of}
use Rattle.record.specs.Split.{record_of, record_at}
use Rattle.record.specs.declared.origin.Origin.{Origin}
use Rattle.record.specs.declared.kinds.Record.{Record}
use Rattle.rule.specs.Il.{il_rule}
use Rattle.rule.specs.Has.{record_class, record_il, field_rule, edition_rule, lawful, has, editions_of, allowed_of}
use Rattle.rule.proofs.Masks.{head_mask}

-- where class and IL are right, the editions that allow the fields are those that have the record
pub allowed_had : (o : Origin) (r : Record) → record_class o r ≡ true → record_il o r ≡ true → allowed_of o r ≡ editions_of o r
unfolding has lawful
allowed_had o r class il =
    ap (λ (b : Bool). cond b (allowed_of o r) 0) (sym (ap₂ ◌&&◌ class il))
    ∙ head_mask (record_class o r && record_il o r) (field_rule o r) (λ e. edition_rule e r)

pub add : {A B : Type 0} → A → B → A × B
add a b = (a, b)

module _ (w : ℕ) where
  abbrev Headed : Origin → ℕ → Type 0
  Headed o c =
      ((head_of (record_of c w)).own ≡ true) × ((head_of (record_of c w)).class ≡ c)
      × (il_rule o c (bit_of w 24) (bit_of w 25) ≡ true → record_il o (record_of c w) ≡ true)

  headed : (o : Origin) (c : ℕ) → is_class o c ≡ true → Headed o c
  unfolding record_of
  headed Origin.AArch32 =
      among_each aarch32_classes (Headed Origin.AArch32)
      (add (refl, refl, λ h. h) (add (refl, refl, λ h. h) (add (refl, refl, λ h. h) (add (refl, refl, λ h. h)
      (add (refl, refl, λ h. h) (add (refl, refl, λ h. h) (add (refl, refl, λ h. h) (add (refl, refl, λ h. h)
      (add (refl, refl, λ h. h) (add (refl, refl, λ h. h) (add (refl, refl, λ h. h) (add (refl, refl, λ h. h)
      (add (refl, refl, λ h. h) (add (refl, refl, λ h. h) (add (refl, refl, λ h. h) (add (refl, refl, λ h. h)
      (add (refl, refl, λ h. h) (add (refl, refl, λ h. h) (add (refl, refl, λ h. h) (add (refl, refl, λ h. h)
      (add (refl, refl, λ h. h) (add (refl, refl, λ h. h) tt))))))))))))))))))))))
  headed Origin.AArch64 =
      among_each aarch64_classes (Headed Origin.AArch64)
      (add (refl, refl, λ h. h) (add (refl, refl, λ h. h) (add (refl, refl, λ h. h) (add (refl, refl, λ h. h)
      (add (refl, refl, λ h. h) (add (refl, refl, λ h. h) (add (refl, refl, λ h. h) (add (refl, refl, λ h. h)
      (add (refl, refl, λ h. h) (add (refl, refl, λ h. h) (add (refl, refl, λ h. h) (add (refl, refl, λ h. h)
      (add (refl, refl, λ h. h) (add (refl, refl, λ h. h) (add (refl, refl, λ h. h) tt)))))))))))))))

  module _ (o : Origin) (known : is_class o (field_of w 31 26) ≡ true) where
    pub class_at : record_class o (record_at w) ≡ true
    class_at = let h = headed o (field_of w 31 26) known in rw (h.0, h.1, known)

    module _ (long : il_rule o (field_of w 31 26) (bit_of w 24) (bit_of w 25) ≡ true) where
      pub il_at : record_il o (record_at w) ≡ true
      il_at = (headed o (field_of w 31 26) known).2 long

      pub allowed_at : (r : Record) → r ≡ record_at w → allowed_of o r ≡ editions_of o r
      allowed_at r at = rw at (allowed_had o (record_at w) class_at il_at)
