-- Why no edition has a word, of a trap from AArch32: the rules of the layout lines, of aborts and of fault codes (crate rule) as tests in
-- their order, each with the number of its words (crate names, `reasons`). 0 is none.
use Rattle.std.specs.Prelude.{ℕ, Bool, not, ◌&&◌, ◌||◌, List, [], ◌∷◌, eqb}
use Rattle.bits.specs.Among.{among}
use Rattle.bits.specs.Field.{field_of}
use Rattle.bits.specs.Decide.{Test, needs, decide}
use Rattle.iss.specs.Rule.{condition_rule, direction_rule, immediate_rule, addressing_rule, passed_rule, mmu_fault}
use Rattle.bits.specs.Test.{implies, between}
use Rattle.iss.specs.Rule.{external_rule, walk_rule, extension_rule, maintenance_rule}
use Rattle.layout.specs.Fields.{debug_code, record_word}
use Rattle.record.specs.Split.{record_at}
use Rattle.record.specs.declared.kinds.Call.{Call}
use Rattle.record.specs.declared.kinds.DataAbort.{DataAbort}
use Rattle.record.specs.declared.kinds.Record.{Record}
use Rattle.record.specs.declared.kinds.Smc.{Smc}
use Rattle.layout_rule.specs.Rule.{no_syndrome_rule, aarch32_access, step_rule, error_rule}
use Rattle.fault_code.specs.Code.{everywhere, with_lpa2, without_ras, data_only_code}

-- some edition has the code of an instruction abort, or of a data abort; the code and SET go together in some edition, and so do ISV and
-- the code
abbrev pub some_code : ℕ → Bool
some_code code = everywhere code || with_lpa2 code || without_ras code || eqb code 0x1B || eqb code 0x31

abbrev pub some_set : ℕ → ℕ → Bool
some_set set code = eqb set 0 || eqb code 0x10 && (eqb set 2 || eqb set 3)

abbrev pub some_syndrome : Bool → ℕ → Bool
some_syndrome isv code = implies isv (mmu_fault code || between 0x13 0x17 code)

-- the tests of fields that both forms have; the short form's own are in crate short_reason
abbrev pub condition_test : Bool → ℕ → Test ℕ
condition_test cv cond = needs (condition_rule cv cond) 2

-- MCR, MRC, VMRS, MCRR and MRRC; LDC and STC
abbrev pub transfer_tests : ℕ → Bool → ℕ → Bool → List (Test ℕ)
transfer_tests class cv cond direction = condition_test cv cond ∷ needs (direction_rule class direction) 3 ∷ []

abbrev pub ldc_tests : Bool → ℕ → ℕ → Bool → List (Test ℕ)
ldc_tests cv cond am direction = condition_test cv cond ∷ needs (addressing_rule am direction) 4 ∷ []

abbrev pub call_tests : Call → List (Test ℕ)
call_tests r = needs (immediate_rule r.il r.imm16) 5 ∷ []

abbrev pub smc_tests : Smc → List (Test ℕ)
smc_tests r = condition_test r.cv r.cond ∷ needs (passed_rule r.ccknownpass r.cv r.cond) 6 ∷ []

-- EA and S1PTW of every abort, and FnV where it is a field
abbrev pub fault_tests : Bool → Bool → ℕ → List (Test ℕ) → List (Test ℕ)
fault_tests ea s1ptw code rest = needs (external_rule ea code) 8 ∷ needs (walk_rule s1ptw code) 9 ∷ rest

abbrev pub abort_tests : Bool → Bool → Bool → ℕ → List (Test ℕ) → List (Test ℕ)
abort_tests fnv ea s1ptw code rest = needs (implies fnv (eqb code 0x10)) 7 ∷ fault_tests ea s1ptw code rest

-- ISV 1 with CM or S1PTW; SSE, and CM with WnR
abbrev pub own_test : Bool → Bool → Bool → Test ℕ
own_test isv cm s1ptw = needs (implies isv (not cm && not s1ptw)) 12

abbrev pub directed_tests : Bool → ℕ → Bool → Bool → List (Test ℕ) → List (Test ℕ)
directed_tests sse sas cm wnr rest = needs (extension_rule sse sas wnr) 13 ∷ needs (maintenance_rule cm wnr) 14 ∷ rest

-- what a data abort says of the access
abbrev pub access_tests : DataAbort → List (Test ℕ) → List (Test ℕ)
access_tests r rest =
    needs (r.isv || no_syndrome_rule r) 10
    ∷ needs (implies r.isv (aarch32_access r)) 11
    ∷ own_test r.isv r.cm r.s1ptw
    ∷ directed_tests r.sse r.sas r.cm r.wnr rest

-- the rules by kind
abbrev pub rule_tests : Record → List (Test ℕ)
rule_tests (Record.Plain r) = []
rule_tests (Record.Wfx r) = condition_test r.cv r.cond ∷ []
rule_tests (Record.Mcr r) = transfer_tests r.class r.cv r.cond r.direction
rule_tests (Record.Mcrr r) = transfer_tests r.class r.cv r.cond r.direction
rule_tests (Record.Ldc r) = ldc_tests r.cv r.cond r.am r.direction
rule_tests (Record.Simd r) = condition_test r.cv r.cond ∷ []
rule_tests (Record.Call r) = call_tests r
rule_tests (Record.Smc r) = smc_tests r
rule_tests (Record.InstructionAbort r) =
    abort_tests r.fnv r.ea r.s1ptw r.code
    (needs (some_code r.code) 17 ∷ needs (some_set r.set r.code) 18 ∷ [])
rule_tests (Record.DataAbort r) =
    abort_tests r.fnv r.ea r.s1ptw r.code
    (access_tests r
    (needs (some_code r.code || data_only_code r.code) 17
    ∷ needs (some_set r.set r.code) 18
    ∷ needs (some_syndrome r.isv r.code) 19
    ∷ []))
rule_tests (Record.Debug r) = []
rule_tests (Record.Step r) = needs (step_rule r.isv r.ex) 15 ∷ []
rule_tests (Record.Watchpoint r) = needs (maintenance_rule r.cm r.wnr) 14 ∷ []
rule_tests (Record.SError r) = needs (error_rule r.aet r.ea r.code) 16 ∷ []
rule_tests (Record.System r) = []

-- the classes of debug exceptions other than BKPT, whose fault code is 0x22
abbrev pub debug_exceptions : List ℕ
debug_exceptions = 0x30 ∷ 0x32 ∷ 0x34 ∷ 0x3A ∷ []

-- the tests of a word: its fault code where that is fixed, bits that belong to no field, and the rules
abbrev pub word_tests : Record → ℕ → List (Test ℕ)
word_tests r w =
    needs (implies (among debug_exceptions (field_of w 31 26)) (eqb (field_of w 5 0) debug_code)) 20 ∷ needs (eqb (record_word r) w) 1
    ∷ rule_tests r

-- WHY: the number of the first that fails
unfoldable pub why_of : ℕ → ℕ
why_of w = decide (word_tests (record_at w) w) 0
