-- A word of a known class, with IL as it must be, that breaks no rule is had by some edition: so a word that no edition has breaks a rule
-- that is named.
-- Assumes nothing.
use mathlib.Core.Path.{◌≡◌, refl}
use mathlib.Core.Bool.{Bool, true, false, not, cond, ◌&&◌, ◌||◌, true≢false, and_assoc}
use mathlib.Core.List.{List, [], ◌∷◌}
use Prim.Native.Nat.{ℕ}
use borrow.Author.Tests.{eqb-true}
use lib.Dec.{T, eqb}
use Rattle.bits.specs.Among.{among}
use Rattle.bits.specs.Decide.{AllPass}
use Rattle.bits.specs.Field.{field_of, bit_of}
use Rattle.bits.specs.Layout.{fitting}
use Rattle.bits.proofs.Booleans.{is_true}
use Rattle.edition.specs.Feature.{is_edition}
use Rattle.iss.specs.Rule.{extension_rule, maintenance_rule}
use Rattle.bits.specs.Test.{implies}
use Rattle.layout.specs.Fields.{fields_of, record_word}
use Rattle.record.specs.Class.{is_class}
use Rattle.record.specs.Split.{record_at}
use Rattle.record.specs.declared.kinds.DataAbort.{DataAbort}
use Rattle.record.specs.declared.kinds.Record.{Record}
use Rattle.record.specs.declared.kinds.Sort.{Sort}
use Rattle.record.specs.declared.origin.Origin.{Origin}
use Rattle.fault_code.specs.Code.{data_only_code, instruction_code, set_rule, isv_rule}
use Rattle.rule.specs.Has.{sort_rule, edition_rule, lawful, has}
use Rattle.rule.specs.Il.{il_rule}
use Rattle.rule.proofs.Heads.{class_at, il_at}
use Rattle.layout_rule.specs.Rule.{no_syndrome_rule, aarch32_access, data_rule, error_type, error_rule, layout_rule}
use Rattle.reason.specs.Reason.{some_code, some_set, some_syndrome, rule_tests, word_tests, why_of}
use Rattle.reason.proofs.Fits.{fits_at}
use Rattle.reason.proofs.Tests.{numbered, all_passed, of_some_test}

-- the origin whose words have reasons: AArch32
abbrev pub o : Origin
o = Origin.AArch32

-- ---- the numbers of the tests

-- those that a word refused 5 may break
abbrev pub rule_numbers : List ℕ
rule_numbers = 1 ∷ 2 ∷ 3 ∷ 4 ∷ 5 ∷ 6 ∷ 7 ∷ 8 ∷ 9 ∷ 10 ∷ 11 ∷ 12 ∷ 13 ∷ 14 ∷ 15 ∷ 16 ∷ 17 ∷ 18 ∷ 19 ∷ 20 ∷ []

rule_numbers_lem : (r : Record) → T (numbered (among rule_numbers) (rule_tests r))
rule_numbers_lem (Record.Plain r) = tt
rule_numbers_lem (Record.Wfx r) = tt
rule_numbers_lem (Record.Mcr r) = tt
rule_numbers_lem (Record.Mcrr r) = tt
rule_numbers_lem (Record.Ldc r) = tt
rule_numbers_lem (Record.Simd r) = tt
rule_numbers_lem (Record.Call r) = tt
rule_numbers_lem (Record.Smc r) = tt
rule_numbers_lem (Record.InstructionAbort r) = tt
rule_numbers_lem (Record.DataAbort r) = tt
rule_numbers_lem (Record.Debug r) = tt
rule_numbers_lem (Record.Step r) = tt
rule_numbers_lem (Record.Watchpoint r) = tt
rule_numbers_lem (Record.SError r) = tt
rule_numbers_lem (Record.System r) = tt

-- THE NUMBER of a rule that a word breaks is one of these
pub why_number : (w : ℕ) → (why_of w ≡ 0 → ⊥) → among rule_numbers (why_of w) ≡ true
unfolding why_of
why_number w some =
    is_true (among rule_numbers (why_of w)) (of_some_test (among rule_numbers) (word_tests (record_at w) w) (rule_numbers_lem (record_at w)) some)

-- ---- the rules that ask nothing of the edition

pub both : {a b : Bool} → a ≡ true → b ≡ true → (a && b) ≡ true
both p q = rw (p, q)

-- what ISV 1 needs, in two parts
pub valid_both : (isv access cm s1ptw : Bool) → implies isv access ≡ true → implies isv (not cm && not s1ptw) ≡ true
    → implies isv ((access && not cm) && not s1ptw) ≡ true
valid_both false access cm s1ptw p q = refl
valid_both true true cm s1ptw p q = q
valid_both true false cm s1ptw p q = p

data_lawful : (r : DataAbort) → (r.isv || no_syndrome_rule r) ≡ true → implies r.isv (aarch32_access r) ≡ true
    → implies r.isv (not r.cm && not r.s1ptw) ≡ true → extension_rule r.sse r.sas r.wnr ≡ true
    → maintenance_rule r.cm r.wnr ≡ true → data_rule o r ≡ true
data_lawful r none access own extension maintenance =
    both (both (both none (valid_both r.isv (aarch32_access r) r.cm r.s1ptw access own)) extension) maintenance

rules_lawful : (r : Record) → AllPass (rule_tests r) → layout_rule o r ≡ true
rules_lawful (Record.Plain r) p = refl
rules_lawful (Record.Wfx r) p = p.0
rules_lawful (Record.Mcr r) p = both p.0 p.1.0
rules_lawful (Record.Mcrr r) p = both p.0 p.1.0
rules_lawful (Record.Ldc r) p = both p.0 p.1.0
rules_lawful (Record.Simd r) p = p.0
rules_lawful (Record.Call r) p = p.0
rules_lawful (Record.Smc r) p = both p.0 p.1.0
rules_lawful (Record.InstructionAbort r) p = both (both p.0 p.1.0) p.1.1.0
rules_lawful (Record.DataAbort r) p =
    let q = p.1.1.1 in
    both (both (both p.0 p.1.0) p.1.1.0) (data_lawful r q.0 q.1.0 q.1.1.0 q.1.1.1.0 q.1.1.1.1.0)
rules_lawful (Record.Debug r) p = refl
rules_lawful (Record.Step r) p = p.0
rules_lawful (Record.Watchpoint r) p = p.0
rules_lawful (Record.SError r) p = p.0
rules_lawful (Record.System r) p = refl

-- ---- an edition: 6, LPA2 and HAFDBS without RAS, has every code; and 1, RAS, has the error types of code 0x10

-- SET is 0, or the code is 0x10
abbrev Witness : Record → Type 0
Witness r = (e : ℕ) × (edition_rule e r ≡ true) × (is_edition e ≡ true)

set_none : (set code : ℕ) → eqb set 0 ≡ true → set_rule 6 set code ≡ true
set_none set code z = rw z

set_some : (none ext some : Bool) → none ≡ false → (none || ext && some) ≡ true → (none || true && (ext && some)) ≡ true
set_some none ext some n s = s

ext_code : (none ext some : Bool) → none ≡ false → (none || ext && some) ≡ true → ext ≡ true
ext_code false true some n s = refl
ext_code false false some n s = s
ext_code true ext some n s = absurd (true≢false n)

instruction_had : (code set : ℕ) → some_code code ≡ true → some_set set code ≡ true
    → (e : ℕ) × ((instruction_code e code && set_rule e set code) ≡ true) × (is_edition e ≡ true)
instruction_had code set c s = go (eqb set 0) refl
  where
    go : (z : Bool) → eqb set 0 ≡ z → (e : ℕ) × ((instruction_code e code && set_rule e set code) ≡ true) × (is_edition e ≡ true)
    go true z = (6, both c (set_none set code z), refl)
    go false z =
        let is : code ≡ 0x10 = eqb-true code 0x10 (ext_code (eqb set 0) (eqb code 0x10) (eqb set 2 || eqb set 3) z s) in
        let known : instruction_code 1 code ≡ true = rw is in
        (1, both known (set_some (eqb set 0) (eqb code 0x10) (eqb set 2 || eqb set 3) z s), refl)

data_had : (code set : ℕ) (isv only : Bool) → (some_code code || only) ≡ true → some_set set code ≡ true → some_syndrome isv code ≡ true
    → (e : ℕ) × ((((instruction_code e code || only) && set_rule e set code) && isv_rule e isv code) ≡ true) × (is_edition e ≡ true)
data_had code set isv only c s v = go (eqb set 0) refl
  where
    go : (z : Bool) → eqb set 0 ≡ z
        → (e : ℕ) × ((((instruction_code e code || only) && set_rule e set code) && isv_rule e isv code) ≡ true) × (is_edition e ≡ true)
    go true z = (6, both (both c (set_none set code z)) v, refl)
    go false z =
        let is : code ≡ 0x10 = eqb-true code 0x10 (ext_code (eqb set 0) (eqb code 0x10) (eqb set 2 || eqb set 3) z s) in
        let known : (instruction_code 1 code || only) ≡ true = rw is in
        let told : isv_rule 1 isv code ≡ true = rw is (rw is at v) in
        (1, both (both known (set_some (eqb set 0) (eqb code 0x10) (eqb set 2 || eqb set 3) z s)) told, refl)

error_had : (a b d f : Bool) → (a && b || d && f) ≡ true → (a || d) ≡ true
error_had true b d f e = refl
error_had false b true f e = refl
error_had false b false f e = e

some_edition : (r : Record) → AllPass (rule_tests r) → Witness r
some_edition (Record.Plain r) p = (0, go (eqb r.class 0x22), refl)
  where
    go : (b : Bool) → sort_rule 0 (cond b Sort.Addressed Sort.Plain) ≡ true
    go true = refl
    go false = refl
some_edition (Record.Wfx r) p = (0, refl, refl)
some_edition (Record.Mcr r) p = (0, refl, refl)
some_edition (Record.Mcrr r) p = (0, refl, refl)
some_edition (Record.Ldc r) p = (0, refl, refl)
some_edition (Record.Simd r) p = (0, refl, refl)
some_edition (Record.Call r) p = (0, refl, refl)
some_edition (Record.Smc r) p = (0, refl, refl)
some_edition (Record.InstructionAbort r) p = instruction_had r.code r.set p.1.1.1.0 p.1.1.1.1.0
some_edition (Record.DataAbort r) p =
    let q = p.1.1.1.1.1.1.1.1 in
    data_had r.code r.set r.isv (data_only_code r.code) q.0 q.1.0 q.1.1.0
some_edition (Record.Debug r) p = (0, refl, refl)
some_edition (Record.Step r) p = (0, refl, refl)
some_edition (Record.Watchpoint r) p = (0, refl, refl)
some_edition (Record.SError r) p =
    (1, error_had (eqb r.code 0) (eqb r.aet 0 && not r.ea) (eqb r.code 0x11) (error_type r.aet) (regroup p.0), refl)
  where
    regroup : error_rule r.aet r.ea r.code ≡ true
        → (eqb r.code 0 && (eqb r.aet 0 && not r.ea) || eqb r.code 0x11 && error_type r.aet) ≡ true
    regroup e = rw (← and_assoc (eqb r.code 0) (eqb r.aet 0) (not r.ea)) e
some_edition (Record.System r) p = (0, refl, refl)

-- A WORD THAT BREAKS NO RULE is had by some edition
pub none_broken : (w : ℕ) → is_class o (field_of w 31 26) ≡ true → il_rule o (field_of w 31 26) (bit_of w 24) (bit_of w 25) ≡ true → why_of w ≡ 0
    → (e : ℕ) × (is_edition e ≡ true) × ((eqb (record_word (record_at w)) w && has o e (record_at w)) ≡ true)
unfolding why_of has lawful
none_broken w class il why =
    let r = record_at w in
    let passed = all_passed (among rule_numbers) refl (word_tests r w) (rule_numbers_lem r) why in
    let rules = passed.1.1 in
    let had = some_edition r rules in
    let heads = both (class_at w o class) (il_at w o class il) in
    let allowed : (fitting (fields_of r) && layout_rule o r) ≡ true =
    both (is_true (fitting (fields_of r)) (fits_at w)) (rules_lawful r rules) in
    (had.0, had.2, both passed.1.0 (both (both had.2 (both heads allowed)) had.1))
