-- Why no short edition has a word: the rules of the layout lines, of aborts and of fault codes (crate short_rule) as tests in their order,
-- each with the number of its words (crate names, `reasons`). 0 is none. Tests of fields that the long form has too are crate reason's.
use Rattle.std.specs.Prelude.{ℕ, Bool, not, ◌&&◌, ◌||◌, List, [], ◌∷◌, eqb, ltb}
use Rattle.bits.specs.Decide.{Test, needs, decide}
use Rattle.bits.specs.Test.{implies}
use Rattle.reason.specs.Reason.{condition_test, transfer_tests, ldc_tests, call_tests, smc_tests, abort_tests, fault_tests, own_test}
use Rattle.reason.specs.Reason.{directed_tests, some_syndrome}
use Rattle.short_layout.specs.Fields.{record_word}
use Rattle.short_record.specs.Split.{record_at}
use Rattle.short_record.specs.declared.kinds.DataAbort.{DataAbort}
use Rattle.short_record.specs.declared.kinds.Record.{Record}
use Rattle.short_rule.specs.Rule.{coproc_rule, asynchronous, no_syndrome_rule, asynchronous_rule}
use Rattle.short_rule.specs.Code.{everywhere, without_ras, data_only_code}

-- some edition has the code of an instruction abort, and of a data abort
abbrev pub some_code : ℕ → Bool
some_code code = everywhere code || without_ras code

abbrev pub some_data_code : ℕ → Bool
some_data_code code = some_code code || data_only_code code || eqb code 0x19

-- bits 11:10 and the code go together in some edition
abbrev pub some_aet : ℕ → ℕ → Bool
some_aet aet code = (eqb aet 0 || eqb code 0x10 && eqb aet 1) || eqb code 0x11

-- an SError interrupt with WnR 1 is one of an edition without RAS, which has no AET
abbrev pub some_wnr : ℕ → Bool → ℕ → Bool
some_wnr aet wnr code = implies (asynchronous code && wnr) (eqb aet 0)

-- an access of ISV 1
abbrev pub access_rule : DataAbort → Bool
access_rule r = ltb r.sas 3 && not (eqb r.srt 15)

-- what a data abort says of the access
abbrev pub access_tests : DataAbort → List (Test ℕ) → List (Test ℕ)
access_tests r rest =
    needs (r.isv || no_syndrome_rule r) 10
    ∷ needs (implies r.isv (access_rule r)) 24
    ∷ own_test r.isv r.cm r.s1ptw
    ∷ needs (asynchronous_rule r) 22
    ∷ directed_tests r.sse r.sas r.cm r.wnr rest

-- the rules by kind
abbrev pub rule_tests : Record → List (Test ℕ)
rule_tests (Record.Plain r) = []
rule_tests (Record.Wfx r) = condition_test r.cv r.cond ∷ []
rule_tests (Record.Mcr r) = transfer_tests r.class r.cv r.cond r.direction
rule_tests (Record.Mcrr r) = transfer_tests r.class r.cv r.cond r.direction
rule_tests (Record.Ldc r) = ldc_tests r.cv r.cond r.am r.direction
rule_tests (Record.Simd r) = condition_test r.cv r.cond ∷ needs (coproc_rule r.ta r.coproc) 21 ∷ []
rule_tests (Record.Call r) = call_tests r
rule_tests (Record.Smc r) = smc_tests r
rule_tests (Record.InstructionAbort r) = abort_tests r.fnv r.ea r.s1ptw r.code (needs (some_code r.code) 17 ∷ [])
rule_tests (Record.DataAbort r) =
    fault_tests r.ea r.s1ptw r.code
    (access_tests r
    (needs (some_data_code r.code) 17
    ∷ needs (some_aet r.aet r.code) 23
    ∷ needs (some_wnr r.aet r.wnr r.code) 25
    ∷ needs (some_syndrome r.isv r.code) 19
    ∷ []))

-- the tests of a word: bits that belong to no field, and the rules
abbrev pub word_tests : Record → ℕ → List (Test ℕ)
word_tests r w = needs (eqb (record_word r) w) 1 ∷ rule_tests r

-- WHY: the number of the first that fails
unfoldable pub why_of : ℕ → ℕ
why_of w = decide (word_tests (record_at w) w) 0
