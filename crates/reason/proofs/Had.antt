-- A word that some edition has breaks no rule: what is named is a rule that no edition lets pass.
-- Assumes nothing.
use mathlib.Core.Path.{◌≡◌, refl, sym, ap, subst}
use mathlib.Core.Bool.{Bool, true, false, not, ◌&&◌, ◌||◌, true≢false}
use mathlib.Core.List.{List, [], ◌∷◌}
use Prim.Native.Nat.{ℕ}
use borrow.Author.Tests.{eqb-true}
use lib.Dec.{T, eqb}
use Rattle.bits.specs.Among.{among}
use Rattle.bits.specs.Decide.{Test, needs, AllPass}
use Rattle.bits.specs.Field.{field_of}
use Rattle.bits.specs.Layout.{fitting}
use Rattle.bits.proofs.Among.{among_each}
use Rattle.bits.proofs.Booleans.{and_left, and_right}
use Rattle.bits.proofs.Deciding.{all_pass}
use Rattle.bits.proofs.Fields.{AllBack, all_back}
use Rattle.edition.specs.Feature.{ras, lpa2, hafdbs, is_edition}
use Rattle.iss.specs.Rule.{mmu_fault, condition_rule, direction_rule, addressing_rule, passed_rule}
use Rattle.bits.specs.Test.{implies, between}
use Rattle.iss.specs.Rule.{external_rule, walk_rule, abort_rule, extension_rule, maintenance_rule}
use Rattle.layout.specs.Fields.{debug_code, fields_of, record_word}
use Rattle.layout.proofs.RoundTrip.{fields_ordered}
use Rattle.record.specs.Split.{record_of, record_at}
use Rattle.record.specs.declared.kinds.DataAbort.{DataAbort}
use Rattle.record.specs.declared.kinds.Record.{Record}
use Rattle.layout_rule.specs.Rule.{no_syndrome_rule, aarch32_access, valid_syndrome_rule, syndrome_rule, data_rule, layout_rule}
use Rattle.fault_code.specs.Code.{everywhere, with_lpa2, without_ras, data_only_code, instruction_code, data_code, set_rule, isv_rule}
use Rattle.rule.specs.Has.{edition_rule, lawful, has}
use Rattle.rule.proofs.Having.{has_layout}
use Rattle.rule.proofs.Heads.{add}
use Rattle.reason.specs.Reason.{some_code, some_set, some_syndrome, abort_tests, access_tests, debug_exceptions, rule_tests, word_tests}
use Rattle.reason.specs.Reason.{why_of}
use Rattle.reason.proofs.Exact.{o, both}
use Rattle.reason.proofs.Fits.{fits_at}

-- ---- what an edition allows, some edition allows

-- one part more, that an edition allows under a condition
pub allowed_some : (a a' under b : Bool) → (a ≡ true → a' ≡ true) → (a || under && b) ≡ true → (a' || b) ≡ true
allowed_some true a' under b some h = rw (some refl)
allowed_some false true under b some h = refl
allowed_some false false under b some h = and_right under b h

pub syndrome_some : (r isv a b : Bool) → implies isv (a || not r && b) ≡ true → implies isv (a || b) ≡ true
syndrome_some r false a b h = refl
syndrome_some r true a b h = allowed_some a a (not r) b (λ same. same) h

code_some : (e code : ℕ) → instruction_code e code ≡ true → some_code code ≡ true
code_some e code =
    let some = everywhere code in
    let in-lpa2 = lpa2 e && with_lpa2 code in
    let in-old = not (ras e) && without_ras code in
    let in_both = lpa2 e && not (ras e) && eqb code 0x1B in
    allowed_some (((some || in-lpa2) || in-old) || in_both) (((some || with_lpa2 code) || without_ras code) || eqb code 0x1B) (hafdbs e)
    (eqb code 0x31)
    (allowed_some ((some || in-lpa2) || in-old) ((some || with_lpa2 code) || without_ras code) (lpa2 e && not (ras e)) (eqb code 0x1B)
    (allowed_some (some || in-lpa2) (some || with_lpa2 code) (not (ras e)) (without_ras code)
    (allowed_some some some (lpa2 e) (with_lpa2 code) (λ same. same))))

set_some : (e set code : ℕ) → set_rule e set code ≡ true → some_set set code ≡ true
set_some e set code = allowed_some (eqb set 0) (eqb set 0) (ras e) (eqb code 0x10 && (eqb set 2 || eqb set 3)) (λ same. same)

-- ---- every test of a record that an edition has passes

pub two : (a b : Bool) → (a && b) ≡ true → (a ≡ true) × ((b ≡ true) × Unit {0})
two a b h = (and_left a b h, (and_right a b h, tt))

-- what ISV 1 needs, in two parts
pub valid_parts : (isv access cm s1ptw : Bool) → implies isv ((access && not cm) && not s1ptw) ≡ true
    → (implies isv access ≡ true) × (implies isv (not cm && not s1ptw) ≡ true)
valid_parts false access cm s1ptw h = (refl, refl)
valid_parts true true cm s1ptw h = (refl, h)
valid_parts true false cm s1ptw h = absurd (true≢false (sym h))

-- an abort with an FnV field, before tests that pass
pub abort_passed : (fnv ea s1ptw : Bool) (code : ℕ) → abort_rule fnv ea s1ptw code ≡ true → (rest : List (Test ℕ)) → AllPass rest
    → AllPass (abort_tests fnv ea s1ptw code rest)
abort_passed fnv ea s1ptw code rules rest passed =
    let valid = implies fnv (eqb code 0x10) in
    let external = external_rule ea code in
    let walk = walk_rule s1ptw code in
    let first = and_left (valid && external) walk rules in
    (and_left valid external first, (and_right valid external first, (and_right (valid && external) walk rules, passed)))

module _ (e : ℕ) where
  data_passed : (r : DataAbort) → layout_rule o (Record.DataAbort r) ≡ true → edition_rule e (Record.DataAbort r) ≡ true
      → AllPass (rule_tests (Record.DataAbort r))
  data_passed r rules had =
      let abort = abort_rule r.fnv r.ea r.s1ptw r.code in
      let fault = and_left abort (data_rule o r) rules in
      let access-told = and_right abort (data_rule o r) rules in
      let syndrome = syndrome_rule o r in
      let extension = extension_rule r.sse r.sas r.wnr in
      let maintenance = maintenance_rule r.cm r.wnr in
      let access = and_left (syndrome && extension) maintenance access-told in
      let told = and_left syndrome extension access in
      let none = r.isv || no_syndrome_rule r in
      let own = implies r.isv (valid_syndrome_rule o r) in
      let parts = valid_parts r.isv (aarch32_access r) r.cm r.s1ptw (and_right none own told) in
      let code = data_code e r.code in
      let set = set_rule e r.set r.code in
      let isv = isv_rule e r.isv r.code in
      let coded = and_left (code && set) isv had in
      abort_passed r.fnv r.ea r.s1ptw r.code fault
      (access_tests r
      (needs (some_code r.code || data_only_code r.code) 17
      ∷ needs (some_set r.set r.code) 18
      ∷ needs (some_syndrome r.isv r.code) 19
      ∷ []))
      (add (and_left none own told) (add parts.0 (add parts.1
      (add (and_right syndrome extension access) (add (and_right (syndrome && extension) maintenance access-told)
      (add
      (allowed_some (instruction_code e r.code) (some_code r.code) true (data_only_code r.code) (code_some e r.code)
      (and_left code set coded))
      (add (set_some e r.set r.code (and_right code set coded))
      (add (syndrome_some (ras e) r.isv (mmu_fault r.code) (between 0x13 0x17 r.code) (and_right (code && set) isv had))
      tt))))))))

  rules_passed : (r : Record) → layout_rule o r ≡ true → edition_rule e r ≡ true → AllPass (rule_tests r)
  rules_passed (Record.Plain r) l had = tt
  rules_passed (Record.Wfx r) l had = (l, tt)
  rules_passed (Record.Mcr r) l had = two (condition_rule r.cv r.cond) (direction_rule r.class r.direction) l
  rules_passed (Record.Mcrr r) l had = two (condition_rule r.cv r.cond) (direction_rule r.class r.direction) l
  rules_passed (Record.Ldc r) l had = two (condition_rule r.cv r.cond) (addressing_rule r.am r.direction) l
  rules_passed (Record.Simd r) l had = (l, tt)
  rules_passed (Record.Call r) l had = (l, tt)
  rules_passed (Record.Smc r) l had = two (condition_rule r.cv r.cond) (passed_rule r.ccknownpass r.cv r.cond) l
  rules_passed (Record.InstructionAbort r) l had =
      let code = instruction_code e r.code in
      let set = set_rule e r.set r.code in
      abort_passed r.fnv r.ea r.s1ptw r.code l
      (needs (some_code r.code) 17 ∷ needs (some_set r.set r.code) 18 ∷ [])
      (two (some_code r.code) (some_set r.set r.code)
      (both (code_some e r.code (and_left code set had)) (set_some e r.set r.code (and_right code set had))))
  rules_passed (Record.DataAbort r) l had = data_passed r l had
  rules_passed (Record.Debug r) l had = tt
  rules_passed (Record.Step r) l had = (l, tt)
  rules_passed (Record.Watchpoint r) l had = (l, tt)
  rules_passed (Record.SError r) l had = (l, tt)
  rules_passed (Record.System r) l had = tt

-- ---- the fixed code of a debug exception stands in its word

implied : (a b : Bool) → (a ≡ true → b ≡ true) → implies a b ≡ true
implied true b then = then refl
implied false b then = refl

module _ (w : ℕ) where
  fields_back : (r : Record) → T (fitting (fields_of r)) → record_word r ≡ w → AllBack w (fields_of r)
  fields_back r fits same = subst (λ (x : ℕ). AllBack x (fields_of r)) same (all_back 32 (fields_of r) (fields_ordered r) fits)

  abbrev Coded : ℕ → Type 0
  Coded c = T (fitting (fields_of (record_of c w))) → record_word (record_of c w) ≡ w → eqb (field_of w 5 0) debug_code ≡ true

  coded : (c : ℕ) → among debug_exceptions c ≡ true → Coded c
  unfolding record_of
  coded =
      let is : field_of w 5 0 ≡ debug_code → eqb (field_of w 5 0) debug_code ≡ true = ap (λ (n : ℕ). eqb n debug_code) in
      among_each debug_exceptions Coded
      (add (λ fits same. is (fields_back (record_of 0x30 w) fits same).1.1.0)
      (add (λ fits same. is (fields_back (record_of 0x32 w) fits same).1.1.1.1.0)
      (add (λ fits same. is (fields_back (record_of 0x34 w) fits same).1.1.1.1.0)
      (add (λ fits same. is (fields_back (record_of 0x3A w) fits same).1.1.0) tt))))

-- A WORD THAT AN EDITION HAS breaks no rule
pub had_unbroken : (e w : ℕ) → (eqb (record_word (record_at w)) w && has o e (record_at w)) ≡ true → why_of w ≡ 0
unfolding why_of has
had_unbroken e w h =
    let r = record_at w in
    let same = and_left (eqb (record_word r) w) (has o e r) h in
    let had = and_right (eqb (record_word r) w) (has o e r) h in
    let debug = among debug_exceptions (field_of w 31 26) in
    all_pass (word_tests r w) 0 (
      implied debug (eqb (field_of w 5 0) debug_code)
          (λ is. coded w (field_of w 31 26) is (fits_at w) (eqb-true (record_word r) w same)),
      (same, rules_passed e r (has_layout o e r had) (and_right (is_edition e && lawful o r) (edition_rule e r) had)),
    )
