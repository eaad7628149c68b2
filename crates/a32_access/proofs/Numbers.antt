-- The registers of an instruction are numbers of 0 to 15, and a list names some.
-- Assumes nothing.
use Rattle.std.proofs.Common.{◌≡◌, ℕ, zero, suc, ◌+◌, ◌*◌, ◌/◌, ◌%◌, ◌^◌, ◌<◌, ◌≤◌, Bool, true, false, cond, not, ◌&&◌, eqb, ltb, List, [], ◌∷◌, ◌++◌, sym, refl, ap, ◌∙◌, ap₂, arith, ltb-false, ltb-true, lt-ltb, eqb-true}
use mathlib.Core.Bool.{and_assoc}
use lib.Count.{ones, ones_step}
use borrow.Author.Tests.{eqb-false, not-true}
use Rattle.bits.specs.Among.{among}
use Rattle.bits.specs.Field.{bit_of}
use Rattle.bits.proofs.Booleans.{and_left, and_right}
use Rattle.a32_fields.specs.Code.{code_of, loads, dual}
use Rattle.a32_fields.specs.declared.kinds.Transfer.{Transfer}
use Rattle.a32_fields.specs.declared.kinds.Multiple.{Multiple}
use Rattle.a32_fields.specs.declared.kinds.Fields.{Fields}
use Rattle.a32_rule.specs.Rule.{pair, pair_rule, writes_back, pw_rule, back_rule, immediate_rule, register_rule}
use Rattle.a32_rule.specs.Inner.{immediate_fits, narrow, target_rule, transferred_by}
use Rattle.a32_rule.specs.Legal.{form_rule, legal}
use Rattle.a32_rule.proofs.Fits.{legal_immediate, legal_register, legal_literal, legal_multiple}
use Rattle.a32_rule.proofs.Rules.{immediate_by, register_by, literal_by}
use Rattle.a32_access.specs.Transferred.{transferred_from, listed_below, registers_of, all_below}

below_both : (n : ℕ) (xs ys : List ℕ) → all_below n (xs ++ ys) ≡ (all_below n xs && all_below n ys)
below_both n [] ys = refl
below_both n (x ∷ xs) ys = ap (λ (b : Bool). ltb x n && b) (below_both n xs ys) ∙ sym (and_assoc (ltb x n) (all_below n xs) (all_below n ys))

both_hold : {a b : Bool} → a ≡ true → b ≡ true → (a && b) ≡ true
both_hold h k = ap₂ ◌&&◌ h k

listed_below_lem : (list n : ℕ) → n ≤ 16 → all_below 16 (listed_below n list) ≡ true
unfolding listed_below
listed_below_lem list zero h = refl
listed_below_lem list (suc n) h =
    below_both 16 (listed_below n list) (cond (bit_of list n) (n ∷ []) [])
    ∙ both_hold (listed_below_lem list n (omega arith)) (one (bit_of list n))
  where
    one : (b : Bool) → all_below 16 (cond b (n ∷ []) []) ≡ true
    one true = both_hold (lt-ltb n 16 (omega arith)) refl
    one false = refl

module _ (x : Transfer) (t : ℕ) (fits : ltb t 16 ≡ true) where
  second_below : pair_rule t ≡ true → ltb ((t + 1) % 2 ^ 32) 16 ≡ true
  second_below h =
      let low = ltb-true t 16 fits in
      let even = eqb-true (t % 2) 0 (and_left (eqb (t % 2) 0) (not (eqb t 14)) h) in
      lt-ltb ((t + 1) % 2 ^ 32) 16 (omega arith)

  transferred_below : target_rule x t ≡ true → all_below 16 (transferred_from x t) ≡ true
  transferred_below = by (dual x)
    where
      by : (b : Bool) → cond b (pair_rule t) (cond (narrow x) (not (eqb t 15)) true) ≡ true
          → all_below 16 (cond b (t ∷ (t + 1) % 2 ^ 32 ∷ []) (t ∷ [])) ≡ true
      by true h = both_hold fits (both_hold (second_below h) refl)
      by false h = both_hold fits refl

-- THE REGISTERS of legal fields are numbers of 0 to 15
pub registers_below : (f : Fields) → legal f ≡ true → all_below 16 (registers_of f) ≡ true
unfolding registers_of
registers_below (Fields.Immediate r) h =
    let t = r.rt in
    let fits = immediate_fits (code_of r.transfer) r.imm in
    let back = writes_back r.p r.w in
    let all = sym (legal_immediate r) ∙ h in
    let low = and_left (ltb r.cond 15 && ltb r.rn 16 && ltb t 16 && fits) (form_rule (Fields.Immediate r)) all in
    let rule = immediate_by back r.rn t r.transfer
    ∙ and_right (pw_rule r.p r.w) (immediate_rule r.transfer back r.rn t)
    (and_right (ltb r.cond 15 && ltb r.rn 16 && ltb t 16 && fits) (form_rule (Fields.Immediate r)) all) in
    transferred_below r.transfer t
    (and_right (ltb r.cond 15 && ltb r.rn 16) (ltb t 16) (and_left (ltb r.cond 15 && ltb r.rn 16 && ltb t 16) fits low))
    (and_left (target_rule r.transfer t) (not (loads r.transfer && eqb r.rn 15))
    (and_left (target_rule r.transfer t && not (loads r.transfer && eqb r.rn 15))
    (back_rule back r.rn (transferred_by r.transfer t)) rule))
registers_below (Fields.Register r) h =
    let t = r.rt in
    let m = r.rm in
    let back = writes_back r.p r.w in
    let all = sym (legal_register r) ∙ h in
    let low = and_left (ltb r.cond 15 && ltb r.rn 16 && ltb t 16 && ltb m 16) (form_rule (Fields.Register r)) all in
    let over = not (dual r.transfer && loads r.transfer && among (pair t) m) in
    let rule = register_by back r.rn t m r.transfer
    ∙ and_right (pw_rule r.p r.w) (register_rule r.transfer back r.rn t m)
    (and_right (ltb r.cond 15 && ltb r.rn 16 && ltb t 16 && ltb m 16) (form_rule (Fields.Register r)) all) in
    transferred_below r.transfer t
    (and_right (ltb r.cond 15 && ltb r.rn 16) (ltb t 16) (and_left (ltb r.cond 15 && ltb r.rn 16 && ltb t 16) (ltb m 16) low))
    (and_right over (target_rule r.transfer t)
    (and_left (over && target_rule r.transfer t) (not (eqb m 15))
    (and_left (over && target_rule r.transfer t && not (eqb m 15)) (back_rule back r.rn (transferred_by r.transfer t)) rule)))
registers_below (Fields.Literal r) h =
    let t = r.rt in
    let fits = immediate_fits (code_of r.transfer) r.imm in
    let all = sym (legal_literal r) ∙ h in
    let low = and_left (ltb r.cond 15 && ltb t 16 && fits) (form_rule (Fields.Literal r)) all in
    let rule = literal_by t r.transfer ∙ and_right (ltb r.cond 15 && ltb t 16 && fits) (form_rule (Fields.Literal r)) all in
    transferred_below r.transfer t
    (and_right (ltb r.cond 15) (ltb t 16) (and_left (ltb r.cond 15 && ltb t 16) fits low))
    (and_right (loads r.transfer) (target_rule r.transfer t) rule)
registers_below (Fields.Multiple r) h = listed_below_lem r.list 16 (omega arith)

-- a number that isn't 0 has a one
some_one : (k n : ℕ) → n ≤ k → 0 < n → 1 ≤ ones n
some_one zero n h z = absurd (omega arith)
some_one (suc k) n h z = by (ltb 0 (n / 2)) refl (λ l. some_one k (n / 2) (omega arith) (ltb-true 0 (n / 2) l))
  where
    by : (b : Bool) → ltb 0 (n / 2) ≡ b → (ltb 0 (n / 2) ≡ true → 1 ≤ ones (n / 2)) → 1 ≤ ones n
    by true l more = omega (arith, ones_step n, more l)
    by false l more = let none = ltb-false 0 (n / 2) l in omega (arith, ones_step n, none)

-- a legal list has some register, so that its size is at least 4
pub list_some : (r : Multiple) → legal (Fields.Multiple r) ≡ true → 4 ≤ 4 * ones r.list
list_some r h =
    let base = not (eqb r.rn 15) in
    let filled = not (eqb r.list 0) in
    let rule = and_right (ltb r.cond 15 && ltb r.rn 16 && ltb r.list 65536) (form_rule (Fields.Multiple r))
    (sym (legal_multiple r) ∙ h) in
    let loaded = not (r.load && r.w && bit_of r.list r.rn) in
    let other = eqb-false r.list 0 (not-true _ (and_right base filled (and_left (base && filled) loaded rule))) in
    omega (arith, some_one r.list r.list (omega arith) (positive r.list other))
  where
    positive : (n : ℕ) → (n ≡ 0 → ⊥) → 0 < n
    positive zero other = absurd (other refl)
    positive (suc n) other = omega arith
