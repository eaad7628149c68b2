-- Legal fields as the code tests them: a condition below 15, each number within its bits, and the form's rule.
-- Assumes nothing.
use mathlib.Core.Path.{◌≡◌, refl, ◌∙◌, sym, ap, ap₂}
use mathlib.Core.Bool.{Bool, true, false, not, ◌&&◌, and-true, and_assoc}
use Prim.Native.Nat.{ℕ, ◌/◌, ◌%◌}
use native.Mathlib.Omega.{arith}
use lib.Dec.{eqb, ltb}
use borrow.Author.Tests.{ltb-true, ltb-false, lt-ltb, le-ltb, eq-eqb, ne_eqb}
use Rattle.bits.specs.Layout.{fitting}
use Rattle.a32_fields.specs.Code.{code_of}
use Rattle.a32_fields.specs.Layout.{offset_fields, index_fields}
use Rattle.a32_fields.specs.declared.kinds.Code.{Code}
use Rattle.a32_fields.specs.declared.kinds.Code.TheVariants.{Word, Extra}
use Rattle.a32_fields.specs.declared.kinds.Immediate.{Immediate}
use Rattle.a32_fields.specs.declared.kinds.Register.{Register}
use Rattle.a32_fields.specs.declared.kinds.Literal.{Literal}
use Rattle.a32_fields.specs.declared.kinds.Multiple.{Multiple}
use Rattle.a32_fields.specs.declared.kinds.Fields.{Fields}
use Rattle.a32_rule.specs.Legal.{legal, form_rule}
use Rattle.a32_rule.specs.Inner.{immediate_fits}

-- four bits that aren't 1111
below_fifteen : (c : ℕ) → (not (eqb c 15) && ltb c 16) ≡ ltb c 15
below_fifteen c = by (ltb c 15) refl (ltb c 16) refl
  where
    by : (a : Bool) → ltb c 15 ≡ a → (b : Bool) → ltb c 16 ≡ b → (not (eqb c 15) && ltb c 16) ≡ ltb c 15
    by true h b same =
        let l = ltb-true c 15 h in
        ap₂ (λ (x y : Bool). not x && y) (ne_eqb c 15 (λ e. omega arith)) (lt-ltb c 16 (omega arith)) ∙ sym h
    by false h true same =
        let l = ltb-false c 15 h in
        let m = ltb-true c 16 same in
        ap (λ (x : Bool). not x && ltb c 16) (eq-eqb c 15 (omega arith)) ∙ sym h
    by false h false same =
        let m = ltb-false c 16 same in
        ap₂ (λ (x y : Bool). not x && y) (ne_eqb c 15 (λ e. omega arith)) same ∙ sym h

-- an imm8 in two halves
halves_fit : (imm : ℕ) → (ltb (imm / 16) 16 && (ltb (imm % 16) 16 && true)) ≡ ltb imm 256
halves_fit imm =
    ap (λ (b : Bool). ltb (imm / 16) 16 && (b && true)) (lt-ltb (imm % 16) 16 (omega arith)) ∙ and-true (ltb (imm / 16) 16)
    ∙ by (ltb imm 256) refl
  where
    by : (b : Bool) → ltb imm 256 ≡ b → ltb (imm / 16) 16 ≡ ltb imm 256
    by true h = let l = ltb-true imm 256 h in lt-ltb (imm / 16) 16 (omega arith) ∙ sym h
    by false h = let l = ltb-false imm 256 h in le-ltb (imm / 16) 16 (omega arith) ∙ sym h

module _ (c : ℕ) (p u w : Bool) (n t : ℕ) where
  offset_fits : (k : Code) (imm : ℕ) → fitting (offset_fields k c p u w n t imm)
      ≡ (ltb c 16 && (ltb n 16 && (ltb t 16 && immediate_fits k imm)))
  offset_fits (Word b l) imm = ap (λ (x : Bool). ltb c 16 && (ltb n 16 && (ltb t 16 && x))) (and-true (ltb imm 4096))
  offset_fits (Extra s h l) imm = ap (λ (x : Bool). ltb c 16 && (ltb n 16 && (ltb t 16 && x))) (halves_fit imm)

  index_fits : (k : Code) (m : ℕ) → fitting (index_fields k c p u w n t m) ≡ (ltb c 16 && (ltb n 16 && (ltb t 16 && ltb m 16)))
  index_fits (Word b l) m = ap (λ (x : Bool). ltb c 16 && (ltb n 16 && (ltb t 16 && x))) (and-true (ltb m 16))
  index_fits (Extra s h l) m = ap (λ (x : Bool). ltb c 16 && (ltb n 16 && (ltb t 16 && x))) (and-true (ltb m 16))

-- the condition joins the other tests, and these stand one after the other
condition_first : (c : ℕ) (rest : Bool) → (not (eqb c 15) && (ltb c 16 && rest)) ≡ (ltb c 15 && rest)
condition_first c rest = sym (and_assoc (not (eqb c 15)) (ltb c 16) rest) ∙ ap (λ (b : Bool). b && rest) (below_fifteen c)

in_row_three : (a b d : Bool) → (a && (b && d)) ≡ (a && b && d)
in_row_three a b d = sym (and_assoc a b d)

in_row : (a b d e : Bool) → (a && (b && (d && e))) ≡ (a && b && d && e)
in_row a b d e = sym (and_assoc a b (d && e)) ∙ sym (and_assoc (a && b) d e)

pub legal_immediate : (r : Immediate)
    → legal (Fields.Immediate r)
    ≡ (ltb r.cond 15 && ltb r.rn 16 && ltb r.rt 16 && immediate_fits (code_of r.transfer) r.imm
    && form_rule (Fields.Immediate r))
unfolding legal
legal_immediate r =
    ap (λ (b : Bool). b && form_rule (Fields.Immediate r))
    (ap (λ (b : Bool). not (eqb r.cond 15) && b)
    (offset_fits r.cond r.p r.u r.w r.rn r.rt (code_of r.transfer) r.imm)
    ∙ condition_first r.cond (ltb r.rn 16 && (ltb r.rt 16 && immediate_fits (code_of r.transfer) r.imm))
    ∙ in_row (ltb r.cond 15) (ltb r.rn 16) (ltb r.rt 16) (immediate_fits (code_of r.transfer) r.imm))

pub legal_register : (r : Register)
    → legal (Fields.Register r) ≡ (ltb r.cond 15 && ltb r.rn 16 && ltb r.rt 16 && ltb r.rm 16 && form_rule (Fields.Register r))
unfolding legal
legal_register r =
    ap (λ (b : Bool). b && form_rule (Fields.Register r))
    (ap (λ (b : Bool). not (eqb r.cond 15) && b)
    (index_fits r.cond r.p r.u r.w r.rn r.rt (code_of r.transfer) r.rm)
    ∙ condition_first r.cond (ltb r.rn 16 && (ltb r.rt 16 && ltb r.rm 16))
    ∙ in_row (ltb r.cond 15) (ltb r.rn 16) (ltb r.rt 16) (ltb r.rm 16))

pub legal_literal : (r : Literal)
    → legal (Fields.Literal r) ≡ (ltb r.cond 15 && ltb r.rt 16 && immediate_fits (code_of r.transfer) r.imm
    && form_rule (Fields.Literal r))
unfolding legal
legal_literal r =
    ap (λ (b : Bool). b && form_rule (Fields.Literal r))
    (ap (λ (b : Bool). not (eqb r.cond 15) && b) (offset_fits r.cond true r.u false 15 r.rt (code_of r.transfer) r.imm)
    ∙ condition_first r.cond (ltb r.rt 16 && immediate_fits (code_of r.transfer) r.imm)
    ∙ in_row_three (ltb r.cond 15) (ltb r.rt 16) (immediate_fits (code_of r.transfer) r.imm))

pub legal_multiple : (r : Multiple)
    → legal (Fields.Multiple r) ≡ (ltb r.cond 15 && ltb r.rn 16 && ltb r.list 65536 && form_rule (Fields.Multiple r))
unfolding legal
legal_multiple r =
    ap (λ (b : Bool). b && form_rule (Fields.Multiple r))
    (ap (λ (b : Bool). not (eqb r.cond 15) && (ltb r.cond 16 && (ltb r.rn 16 && b))) (and-true (ltb r.list 65536))
    ∙ condition_first r.cond (ltb r.rn 16 && ltb r.list 65536)
    ∙ in_row_three (ltb r.cond 15) (ltb r.rn 16) (ltb r.list 65536))
