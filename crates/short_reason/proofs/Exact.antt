-- A word of a known class, with IL as it must be, breaks no rule exactly where some short edition has it: so a word that no edition has
-- breaks a rule that is named.
-- Assumes nothing.
use mathlib.Core.Path.{◌≡◌, refl}
use mathlib.Core.Bool.{Bool, true, false, not, ◌&&◌, ◌||◌}
use mathlib.Core.List.{List, [], ◌∷◌}
use Prim.Native.Nat.{ℕ}
use borrow.Author.Tests.{eqb-true}
use lib.Dec.{T, eqb}
use Rattle.bits.specs.Among.{among}
use Rattle.bits.specs.Decide.{AllPass}
use Rattle.bits.specs.Field.{field_of, bit_of}
use Rattle.bits.specs.Layout.{fitting}
use Rattle.bits.proofs.Among.{among_each}
use Rattle.bits.proofs.Booleans.{is_true, either_false}
use Rattle.edition.specs.Feature.{ras}
use Rattle.iss.specs.Rule.{external_rule, walk_rule, extension_rule, maintenance_rule, isv_code}
use Rattle.bits.specs.Test.{implies}
use Rattle.reason.specs.Reason.{some_syndrome}
use Rattle.reason.proofs.Tests.{numbered, all_passed, of_some_test}
use Rattle.reason.proofs.Exact.{both, valid_both}
use Rattle.rule.proofs.Heads.{add}
use Rattle.short_layout.specs.Fields.{fields_of, record_word}
use Rattle.short_record.specs.Class.{classes, is_class, head_of}
use Rattle.short_record.specs.Split.{record_of, record_at}
use Rattle.short_record.specs.declared.kinds.DataAbort.{DataAbort}
use Rattle.short_record.specs.declared.kinds.Record.{Record}
use Rattle.short_rule.specs.Edition.{is_edition}
use Rattle.short_rule.specs.Rule.{asynchronous, no_syndrome_rule, asynchronous_rule, data_rule, layout_rule}
use Rattle.short_rule.specs.Code.{data_code, aet_rule, wnr_rule, edition_rule}
use Rattle.short_rule.specs.Has.{record_il, lawful, has}
use Rattle.short_rule.specs.Il.{il_rule}
use Rattle.short_reason.specs.Reason.{some_data_code, some_aet, some_wnr, access_rule, rule_tests, word_tests, why_of}
use Rattle.short_reason.proofs.Fits.{fits_at}

-- ---- the numbers of the tests

-- the numbers of the rules that a word refused 5 may break
abbrev pub rule_numbers : List ℕ
rule_numbers =
    1 ∷ 2 ∷ 3 ∷ 4 ∷ 5 ∷ 6 ∷ 7 ∷ 8 ∷ 9 ∷ 10 ∷ 12 ∷ 13 ∷ 14 ∷ 17 ∷ 19 ∷ 21 ∷ 22 ∷ 23 ∷ 24 ∷ 25 ∷ []

rule_numbers_lem : (r : Record) → T (numbered (among rule_numbers) (rule_tests r))
rule_numbers_lem (Record.Plain r) = tt
rule_numbers_lem (Record.Wfx r) = tt
rule_numbers_lem (Record.Mcr r) = tt
rule_numbers_lem (Record.Mcrr r) = tt
rule_numbers_lem (Record.Ldc r) = tt
rule_numbers_lem (Record.Simd r) = tt
rule_numbers_lem (Record.Call r) = tt
rule_numbers_lem (Record.Smc r) = tt
rule_numbers_lem (Record.InstructionAbort r) = tt
rule_numbers_lem (Record.DataAbort r) = tt

-- THE NUMBER of a rule that a word breaks is one of these
pub why_number : (w : ℕ) → (why_of w ≡ 0 → ⊥) → among rule_numbers (why_of w) ≡ true
unfolding why_of
why_number w some =
    is_true (among rule_numbers (why_of w)) (of_some_test (among rule_numbers) (word_tests (record_at w) w) (rule_numbers_lem (record_at w)) some)

-- ---- the rules that ask nothing of the edition

data_lawful : (r : DataAbort) → external_rule r.ea r.code ≡ true → walk_rule r.s1ptw r.code ≡ true
    → (r.isv || no_syndrome_rule r) ≡ true → implies r.isv (access_rule r) ≡ true
    → implies r.isv (not r.cm && not r.s1ptw) ≡ true → asynchronous_rule r ≡ true
    → extension_rule r.sse r.sas r.wnr ≡ true → maintenance_rule r.cm r.wnr ≡ true → data_rule r ≡ true
data_lawful r external walk none access own asynchronous extension maintenance =
    both (both (both (both (both external walk) (both none (valid_both r.isv (access_rule r) r.cm r.s1ptw access own)))
    asynchronous) extension) maintenance

rules_lawful : (r : Record) → AllPass (rule_tests r) → layout_rule r ≡ true
rules_lawful (Record.Plain r) p = refl
rules_lawful (Record.Wfx r) p = p.0
rules_lawful (Record.Mcr r) p = both p.0 p.1.0
rules_lawful (Record.Mcrr r) p = both p.0 p.1.0
rules_lawful (Record.Ldc r) p = both p.0 p.1.0
rules_lawful (Record.Simd r) p = both p.0 p.1.0
rules_lawful (Record.Call r) p = p.0
rules_lawful (Record.Smc r) p = both p.0 p.1.0
rules_lawful (Record.InstructionAbort r) p = both (both p.0 p.1.0) p.1.1.0
rules_lawful (Record.DataAbort r) p =
    let q = p.1.1 in
    data_lawful r p.0 p.1.0 q.0 q.1.0 q.1.1.0 q.1.1.1.0 q.1.1.1.1.0 q.1.1.1.1.1.0

-- ---- an edition: 0, without RAS, has every code, and 1 has AET with code 0x11

-- bits 11:10 that every edition allows
abbrev pub plain_aet : ℕ → ℕ → Bool
plain_aet aet code = eqb aet 0 || eqb code 0x10 && eqb aet 1

or_true : (b : Bool) → (b || true) ≡ true
or_true true = refl
or_true false = refl

first_holds : (a b : Bool) → a ≡ true → (a || b) ≡ true
first_holds a b h = rw h

second_holds : (a b : Bool) → a ≡ false → (a || b) ≡ true → b ≡ true
second_holds a b first h = rw first at h

abbrev DataHad : ℕ → ℕ → Bool → Bool → Type 0
DataHad code aet wnr isv =
    (e : ℕ) × ((data_code e code && aet_rule e aet code && wnr_rule e wnr code && isv_code (ras e) isv code) ≡ true) × (is_edition e ≡ true)

data_had : (code aet : ℕ) (wnr isv : Bool) → some_data_code code ≡ true → some_aet aet code ≡ true → some_wnr aet wnr code ≡ true
    → some_syndrome isv code ≡ true → DataHad code aet wnr isv
data_had code aet wnr isv known bits write syndrome = go (plain_aet aet code) refl
  where
    go : (b : Bool) → plain_aet aet code ≡ b → DataHad code aet wnr isv
    go true plain =
        let free = or_true (not (asynchronous code && wnr)) in
        (0, both (both (both known (first_holds (plain_aet aet code) false plain)) free) syndrome, refl)
    go false other =
        let is : code ≡ 0x11 = eqb-true code 0x11 (second_holds (plain_aet aet code) (eqb code 0x11) other bits) in
        let zero : eqb aet 0 ≡ false = either_false (eqb aet 0) (eqb code 0x10 && eqb aet 1) other in
        let has_code : data_code 1 code ≡ true = rw is in
        let has-type : aet_rule 1 aet code ≡ true = rw is (or_true (eqb aet 0 || false)) in
        let reads : wnr_rule 1 wnr code ≡ true = rw is (rw (is, zero) at write) in
        let told : isv_code (ras 1) isv code ≡ true = rw is (rw is at syndrome) in
        (1, both (both (both has_code has-type) reads) told, refl)

abbrev Witness : Record → Type 0
Witness r = (e : ℕ) × (edition_rule e r ≡ true) × (is_edition e ≡ true)

some_edition : (r : Record) → AllPass (rule_tests r) → Witness r
some_edition (Record.Plain r) p = (0, refl, refl)
some_edition (Record.Wfx r) p = (0, refl, refl)
some_edition (Record.Mcr r) p = (0, refl, refl)
some_edition (Record.Mcrr r) p = (0, refl, refl)
some_edition (Record.Ldc r) p = (0, refl, refl)
some_edition (Record.Simd r) p = (0, refl, refl)
some_edition (Record.Call r) p = (0, refl, refl)
some_edition (Record.Smc r) p = (0, refl, refl)
some_edition (Record.InstructionAbort r) p = (0, p.1.1.1.0, refl)
some_edition (Record.DataAbort r) p =
    let q = p.1.1.1.1.1.1.1.1 in
    data_had r.code r.aet r.wnr r.isv q.0 q.1.0 q.1.1.0 q.1.1.1.0

-- ---- the kind and IL of the record at a word's bits

module _ (w : ℕ) where
  -- the record of a known class is of its own kind, and has IL where the word has it
  abbrev Headed : ℕ → Type 0
  Headed c =
      ((head_of (record_of c w)).own ≡ true) × (il_rule c (bit_of w 24) (bit_of w 25) ≡ true → record_il (record_of c w) ≡ true)

  headed : (c : ℕ) → is_class c ≡ true → Headed c
  unfolding record_of
  headed =
      among_each classes Headed
      (add (refl, λ h. h) (add (refl, λ h. h) (add (refl, λ h. h) (add (refl, λ h. h) (add (refl, λ h. h) (add (refl, λ h. h)
      (add (refl, λ h. h) (add (refl, λ h. h) (add (refl, λ h. h) (add (refl, λ h. h) (add (refl, λ h. h) (add (refl, λ h. h)
      (add (refl, λ h. h) (add (refl, λ h. h) (add (refl, λ h. h) (add (refl, λ h. h) tt))))))))))))))))

  -- A WORD THAT BREAKS NO RULE is had by some edition
  pub none_broken : is_class (field_of w 31 26) ≡ true → il_rule (field_of w 31 26) (bit_of w 24) (bit_of w 25) ≡ true → why_of w ≡ 0
      → (e : ℕ) × (is_edition e ≡ true) × ((eqb (record_word (record_at w)) w && has e (record_at w)) ≡ true)
  unfolding why_of has lawful
  none_broken class il why =
      let r = record_at w in
      let passed = all_passed (among rule_numbers) refl (word_tests r w) (rule_numbers_lem r) why in
      let h = headed (field_of w 31 26) class in
      let had = some_edition r passed.1 in
      let allowed : (fitting (fields_of r) && layout_rule r) ≡ true =
      both (is_true (fitting (fields_of r)) (fits_at w)) (rules_lawful r passed.1) in
      (had.0, had.2, both passed.0 (both (both had.2 (both (both h.0 (h.1 il)) allowed)) had.1))
