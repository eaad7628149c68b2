-- A word that some short edition has breaks no rule: what is named is a rule that no edition lets pass.
-- Assumes nothing.
use mathlib.Core.Path.{◌≡◌, refl, sym, ap, ◌∙◌}
use mathlib.Core.Bool.{Bool, true, false, not, ◌&&◌, ◌||◌, true≢false}
use mathlib.Core.List.{[], ◌∷◌}
use Prim.Native.Nat.{ℕ}
use borrow.Author.Tests.{eqb-true}
use lib.Dec.{eqb}
use Rattle.bits.specs.Decide.{needs, AllPass}
use Rattle.bits.proofs.Booleans.{and_left, and_right, not_true_false}
use Rattle.bits.proofs.Deciding.{all_pass}
use Rattle.edition.specs.Feature.{ras}
use Rattle.iss.specs.Rule.{mmu_fault, condition_rule, direction_rule, addressing_rule, passed_rule}
use Rattle.bits.specs.Test.{implies, between}
use Rattle.iss.specs.Rule.{external_rule, walk_rule, extension_rule, maintenance_rule, isv_code}
use Rattle.rule.proofs.Heads.{add}
use Rattle.reason.proofs.Had.{allowed_some, syndrome_some, two, valid_parts, abort_passed}
use Rattle.short_layout.specs.Fields.{record_word}
use Rattle.short_record.specs.Split.{record_at}
use Rattle.short_record.specs.declared.kinds.DataAbort.{DataAbort}
use Rattle.short_record.specs.declared.kinds.Record.{Record}
use Rattle.short_rule.specs.Edition.{is_edition}
use Rattle.short_rule.specs.Rule.{coproc_rule, asynchronous, no_syndrome_rule, valid_syndrome_rule, syndrome_rule, asynchronous_rule}
use Rattle.short_rule.specs.Rule.{data_rule, layout_rule}
use Rattle.short_rule.specs.Code.{everywhere, without_ras, data_only_code, instruction_code, data_code, aet_rule, wnr_rule, edition_rule}
use Rattle.short_rule.specs.Has.{lawful, has}
use Rattle.short_rule.proofs.Having.{has_layout}
use Rattle.short_reason.specs.Reason.{some_code, some_data_code, some_wnr, access_rule, rule_tests, word_tests, why_of}
use Rattle.short_reason.proofs.Exact.{plain_aet}

-- ---- what an edition allows, some edition allows

-- an SError interrupt hasn't code 0x10, so that its bits 11:10 are 0 without RAS
other_code : (code : ℕ) → asynchronous code ≡ true → eqb code 0x10 ≡ false
other_code code is =
    not_true_false (eqb code 0x10) (λ same. true≢false (sym is ∙ ap asynchronous (eqb-true code 0x10 same)))

zero_aet : (a b d : Bool) → b ≡ false → ((a || b && d) || false) ≡ true → a ≡ true
zero_aet true b d other h = refl
zero_aet false b d other h = rw other at h

wnr_some : (r : Bool) (aet : ℕ) (wnr : Bool) (code : ℕ) → (plain_aet aet code || r && eqb code 0x11) ≡ true
    → implies (asynchronous code && wnr) (not r) ≡ true → some_wnr aet wnr code ≡ true
wnr_some r aet wnr code type' write = go r (asynchronous code && wnr) refl type' write
  where
    go : (r s : Bool) → (asynchronous code && wnr) ≡ s → (plain_aet aet code || r && eqb code 0x11) ≡ true → implies s (not r) ≡ true
        → implies s (eqb aet 0) ≡ true
    go r false is t h = refl
    go true true is t h = absurd (true≢false (sym h))
    go false true is t h =
        zero_aet (eqb aet 0) (eqb code 0x10) (eqb aet 1) (other_code code (and_left (asynchronous code) wnr is)) t

-- ---- every test of a record that an edition has passes

module _ (e : ℕ) where
  code_some : (code : ℕ) → instruction_code e code ≡ true → some_code code ≡ true
  code_some code = allowed_some (everywhere code) (everywhere code) (not (ras e)) (without_ras code) (λ same. same)

  data_code_some : (code : ℕ) → data_code e code ≡ true → some_data_code code ≡ true
  data_code_some code =
      allowed_some (instruction_code e code || data_only_code code) (some_code code || data_only_code code) (not (ras e)) (eqb code 0x19)
      (allowed_some (instruction_code e code) (some_code code) true (data_only_code code) (code_some code))

  data_passed : (r : DataAbort) → data_rule r ≡ true → edition_rule e (Record.DataAbort r) ≡ true → AllPass (rule_tests (Record.DataAbort r))
  data_passed r rules had =
      let external = external_rule r.ea r.code in
      let walk = walk_rule r.s1ptw r.code in
      let syndrome = syndrome_rule r in
      let interrupt = asynchronous_rule r in
      let extension = extension_rule r.sse r.sas r.wnr in
      let maintenance = maintenance_rule r.cm r.wnr in
      let five = and_left (external && walk && syndrome && interrupt && extension) maintenance rules in
      let four = and_left (external && walk && syndrome && interrupt) extension five in
      let three = and_left (external && walk && syndrome) interrupt four in
      let ends = and_left (external && walk) syndrome three in
      let told = and_right (external && walk) syndrome three in
      let none = r.isv || no_syndrome_rule r in
      let valid = implies r.isv (valid_syndrome_rule r) in
      let parts = valid_parts r.isv (access_rule r) r.cm r.s1ptw (and_right none valid told) in
      let code = data_code e r.code in
      let aet = aet_rule e r.aet r.code in
      let wnr = wnr_rule e r.wnr r.code in
      let isv = isv_code (ras e) r.isv r.code in
      let had-three = and_left (code && aet && wnr) isv had in
      let had-two = and_left (code && aet) wnr had-three in
      let had-aet = and_right code aet had-two in
      add (and_left external walk ends) (add (and_right external walk ends)
      (add (and_left none valid told) (add parts.0 (add parts.1
      (add (and_right (external && walk && syndrome) interrupt four)
      (add (and_right (external && walk && syndrome && interrupt) extension five)
      (add (and_right (external && walk && syndrome && interrupt && extension) maintenance rules)
      (add
      (data_code_some r.code (and_left code aet had-two))
      (add (allowed_some (plain_aet r.aet r.code) (plain_aet r.aet r.code) (ras e) (eqb r.code 0x11) (λ same. same) had-aet)
      (add (wnr_some (ras e) r.aet r.wnr r.code had-aet (and_right (code && aet) wnr had-three))
      (add
      (syndrome_some (ras e) r.isv (mmu_fault r.code) (between 0x13 0x17 r.code) (and_right (code && aet && wnr) isv had))
      tt)))))))))))

  rules_passed : (r : Record) → layout_rule r ≡ true → edition_rule e r ≡ true → AllPass (rule_tests r)
  rules_passed (Record.Plain r) l had = tt
  rules_passed (Record.Wfx r) l had = (l, tt)
  rules_passed (Record.Mcr r) l had = two (condition_rule r.cv r.cond) (direction_rule r.class r.direction) l
  rules_passed (Record.Mcrr r) l had = two (condition_rule r.cv r.cond) (direction_rule r.class r.direction) l
  rules_passed (Record.Ldc r) l had = two (condition_rule r.cv r.cond) (addressing_rule r.am r.direction) l
  rules_passed (Record.Simd r) l had = two (condition_rule r.cv r.cond) (coproc_rule r.ta r.coproc) l
  rules_passed (Record.Call r) l had = (l, tt)
  rules_passed (Record.Smc r) l had = two (condition_rule r.cv r.cond) (passed_rule r.ccknownpass r.cv r.cond) l
  rules_passed (Record.InstructionAbort r) l had =
      abort_passed r.fnv r.ea r.s1ptw r.code l (needs (some_code r.code) 17 ∷ []) (code_some r.code had, tt)
  rules_passed (Record.DataAbort r) l had = data_passed r l had

  -- A WORD THAT AN EDITION HAS breaks no rule
  pub had_unbroken : (w : ℕ) → (eqb (record_word (record_at w)) w && has e (record_at w)) ≡ true → why_of w ≡ 0
  unfolding why_of has
  had_unbroken w h =
      let r = record_at w in
      let had = and_right (eqb (record_word r) w) (has e r) h in
      all_pass (word_tests r w) 0 (
        and_left (eqb (record_word r) w) (has e r) h,
        rules_passed r (has_layout e r had) (and_right (is_edition e && lawful r) (edition_rule e r) had),
      )
