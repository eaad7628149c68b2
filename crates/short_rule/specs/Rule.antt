-- The rules of the layout lines and of aborts that ask nothing of the edition (source 004; 01, 'Layout of the word').
use Rattle.std.specs.Prelude.{ℕ, Bool, true, not, ◌&&◌, ◌||◌, cond, ltb, eqb}
use Rattle.iss.specs.Rule.{condition_rule, direction_rule, immediate_rule, addressing_rule, passed_rule, external_rule, walk_rule}
use Rattle.bits.specs.Test.{implies}
use Rattle.iss.specs.Rule.{abort_rule, extension_rule, maintenance_rule}
use Rattle.short_record.specs.declared.kinds.DataAbort.{DataAbort}
use Rattle.short_record.specs.declared.kinds.Record.{Record}

-- class 0x07: coproc is 1010 where TA is 1, and otherwise 0
abbrev pub coproc_rule : Bool → ℕ → Bool
coproc_rule ta coproc = cond ta (eqb coproc 0b1010) (eqb coproc 0)

-- codes 0x11 and 0x19: SError interrupts, which are asynchronous
abbrev pub asynchronous : ℕ → Bool
asynchronous code = eqb code 0x11 || eqb code 0x19

-- ISV 0 needs 23:14 zero
abbrev pub no_syndrome_rule : DataAbort → Bool
no_syndrome_rule r = eqb r.sas 0 && not r.sse && eqb r.srt 0 && not r.ar

-- ISV 1 needs SAS below 3, SRT not 15, CM 0 and S1PTW 0
abbrev pub valid_syndrome_rule : DataAbort → Bool
valid_syndrome_rule r = ltb r.sas 3 && not (eqb r.srt 15) && not r.cm && not r.s1ptw

abbrev pub syndrome_rule : DataAbort → Bool
syndrome_rule r = (r.isv || no_syndrome_rule r) && implies r.isv (valid_syndrome_rule r)

-- CM is 0 in an asynchronous abort
abbrev pub asynchronous_rule : DataAbort → Bool
asynchronous_rule r = implies (asynchronous r.code) (not r.cm)

abbrev pub data_rule : DataAbort → Bool
data_rule r =
    external_rule r.ea r.code && walk_rule r.s1ptw r.code && syndrome_rule r && asynchronous_rule r
    && extension_rule r.sse r.sas r.wnr
    && maintenance_rule r.cm r.wnr

abbrev pub layout_rule : Record → Bool
layout_rule (Record.Plain r) = true
layout_rule (Record.Wfx r) = condition_rule r.cv r.cond
layout_rule (Record.Mcr r) = condition_rule r.cv r.cond && direction_rule r.class r.direction
layout_rule (Record.Mcrr r) = condition_rule r.cv r.cond && direction_rule r.class r.direction
layout_rule (Record.Ldc r) = condition_rule r.cv r.cond && addressing_rule r.am r.direction
layout_rule (Record.Simd r) = condition_rule r.cv r.cond && coproc_rule r.ta r.coproc
layout_rule (Record.Call r) = immediate_rule r.il r.imm16
layout_rule (Record.Smc r) = condition_rule r.cv r.cond && passed_rule r.ccknownpass r.cv r.cond
layout_rule (Record.InstructionAbort r) = abort_rule r.fnv r.ea r.s1ptw r.code
layout_rule (Record.DataAbort r) = data_rule r
