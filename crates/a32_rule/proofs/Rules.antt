-- Each form's rule is what the code tests: what Rt must be, the base, the offset register and the write-back.
-- Assumes nothing.
use mathlib.Core.Path.{◌≡◌, refl, ap}
use mathlib.Core.Bool.{Bool, not, ◌&&◌, and-true}
use mathlib.Core.List.{[], ◌∷◌}
use Prim.Native.Nat.{ℕ, ◌+◌}
use lib.Dec.{eqb}
use Rattle.bits.specs.Among.{among}
use Rattle.a32_fields.specs.Code.{loads, dual}
use Rattle.a32_fields.specs.declared.kinds.Transfer.{Transfer}
use Rattle.a32_fields.specs.declared.kinds.Transfer.TheVariants.{Ldr, Str, Ldrb, Strb, Ldrh, Strh, Ldrsb, Ldrsh, Ldrd, Strd}
use Rattle.a32_rule.specs.Rule.{back_rule, pair_rule, immediate_rule, register_rule, literal_rule}
use Rattle.a32_rule.specs.Inner.{target_rule, transferred_by}

module _ (back : Bool) (n t : ℕ) where
  pub immediate_by : (x : Transfer)
      → (target_rule x t && not (loads x && eqb n 15) && back_rule back n (transferred_by x t)) ≡ immediate_rule x back n t
  immediate_by Ldr = refl
  immediate_by Str = refl
  immediate_by Ldrb = refl
  immediate_by Strb = ap (λ (b : Bool). b && back_rule back n (t ∷ [])) (and-true (not (eqb t 15)))
  immediate_by Ldrh = refl
  immediate_by Strh = ap (λ (b : Bool). b && back_rule back n (t ∷ [])) (and-true (not (eqb t 15)))
  immediate_by Ldrsb = refl
  immediate_by Ldrsh = refl
  immediate_by Ldrd = refl
  immediate_by Strd = ap (λ (b : Bool). b && back_rule back n (t ∷ (t + 1) ∷ [])) (and-true (pair_rule t))

  pub register_by : (m : ℕ) (x : Transfer)
      → (not (dual x && loads x && among (t ∷ (t + 1) ∷ []) m) && target_rule x t && not (eqb m 15) && back_rule back n (transferred_by x t))
      ≡ register_rule x back n t m
  register_by m Ldr = refl
  register_by m Str = refl
  register_by m Ldrb = refl
  register_by m Strb = refl
  register_by m Ldrh = refl
  register_by m Strh = refl
  register_by m Ldrsb = refl
  register_by m Ldrsh = refl
  register_by m Ldrd = refl
  register_by m Strd = refl

pub literal_by : (t : ℕ) (x : Transfer) → (loads x && target_rule x t) ≡ literal_rule x t
literal_by t Ldr = refl
literal_by t Str = refl
literal_by t Ldrb = refl
literal_by t Strb = refl
literal_by t Ldrh = refl
literal_by t Strh = refl
literal_by t Ldrsb = refl
literal_by t Ldrsh = refl
literal_by t Ldrd = refl
literal_by t Strd = refl
