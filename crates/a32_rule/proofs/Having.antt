-- What legal fields give: they fit, and their form is their own.
-- Assumes nothing.
use mathlib.Core.Path.{◌≡◌, refl, ◌∙◌, sym}
use Prim.Native.Nat.{◌<◌}
use borrow.Author.Tests.{ltb-true}
use mathlib.Core.Bool.{true, not, ◌&&◌}
use lib.Dec.{T, eqb, ltb}
use Rattle.bits.specs.Layout.{fitting}
use Rattle.bits.proofs.Booleans.{and_left, and_right, holds}
use Rattle.a32_fields.specs.Code.{loads}
use Rattle.a32_fields.specs.Layout.{fields_of}
use Rattle.a32_fields.specs.declared.kinds.Multiple.{Multiple}
use Rattle.a32_fields.specs.declared.kinds.Fields.{Fields}
use Rattle.a32_fields.proofs.RoundTrip.{own_form}
use Rattle.a32_rule.specs.Rule.{pw_rule, writes_back, back_rule, immediate_rule}
use Rattle.a32_rule.specs.Legal.{condition_of, form_rule, legal}
use Rattle.a32_rule.specs.Inner.{target_rule, transferred_by}
use Rattle.a32_rule.proofs.Rules.{immediate_by, literal_by}
use Rattle.a32_rule.proofs.Fits.{legal_multiple}

own_by_rule : (f : Fields) → form_rule f ≡ true → own_form f ≡ true
own_by_rule (Fields.Immediate r) h =
    let back = writes_back r.p r.w in
    let rule = immediate_by back r.rn r.rt r.transfer
    ∙ and_right (pw_rule r.p r.w) (immediate_rule r.transfer back r.rn r.rt) h in
    and_right (target_rule r.transfer r.rt) (not (loads r.transfer && eqb r.rn 15))
    (and_left (target_rule r.transfer r.rt && not (loads r.transfer && eqb r.rn 15))
    (back_rule back r.rn (transferred_by r.transfer r.rt)) rule)
own_by_rule (Fields.Register r) h = refl
own_by_rule (Fields.Literal r) h = and_left (loads r.transfer) (target_rule r.transfer r.rt) (literal_by r.rt r.transfer ∙ h)
own_by_rule (Fields.Multiple r) h = refl

module _ (f : Fields) (h : legal f ≡ true) where
  before_rule : (not (eqb (condition_of f) 15) && fitting (fields_of f)) ≡ true
  unfolding legal
  before_rule = and_left (not (eqb (condition_of f) 15) && fitting (fields_of f)) (form_rule f) h

  pub legal_fits : T (fitting (fields_of f))
  legal_fits = holds (and_right (not (eqb (condition_of f) 15)) (fitting (fields_of f)) before_rule)

  legal_rule : form_rule f ≡ true
  unfolding legal
  legal_rule = and_right (not (eqb (condition_of f) 15) && fitting (fields_of f)) (form_rule f) h

  pub legal_own : own_form f ≡ true
  legal_own = own_by_rule f legal_rule

-- a legal list names registers below 16
pub multiple_list : (r : Multiple) → legal (Fields.Multiple r) ≡ true → r.list < 65536
multiple_list r h =
    ltb-true r.list 65536
    (and_right (ltb r.cond 15 && ltb r.rn 16) (ltb r.list 65536)
    (and_left (ltb r.cond 15 && ltb r.rn 16 && ltb r.list 65536) (form_rule (Fields.Multiple r)) (sym (legal_multiple r) ∙ h)))
