-- The rules of the layout lines and of aborts that ask nothing of the edition (01, 'Layout of the word'; for C-20's classes source 001; 02,
-- C-23). Three of them go by the trap's origin: the condition, what ISV 1 needs, and SSE.
use Rattle.std.specs.Prelude.{ℕ, Bool, true, not, ◌&&◌, ◌||◌, leb, ltb, eqb}
use Rattle.iss.specs.Rule.{condition_rule, direction_rule, immediate_rule, addressing_rule, passed_rule, abort_rule, extension_rule}
use Rattle.bits.specs.Test.{implies}
use Rattle.iss.specs.Rule.{maintenance_rule}
use Rattle.record.specs.Origin.{from_aarch64}
use Rattle.record.specs.declared.origin.Origin.{Origin}
use Rattle.record.specs.declared.kinds.DataAbort.{DataAbort}
use Rattle.record.specs.declared.kinds.Record.{Record}

-- from AArch64 CV is 1 and COND 1110. The other kinds with a condition, MCR, MCRR, LDC and SMC, have no class there
abbrev pub condition_from : Origin → Bool → ℕ → Bool
condition_from o cv cond = implies (from_aarch64 o) (cv && eqb cond 0b1110) && condition_rule cv cond

-- ISV 0 needs 23:14 zero
abbrev pub no_syndrome_rule : DataAbort → Bool
no_syndrome_rule r = eqb r.sas 0 && not r.sse && eqb r.srt 0 && not r.sf && not r.ar

-- ISV 1 needs CM 0 and S1PTW 0, and from AArch32 SF 0, SAS below 3 and SRT neither 15 nor 31; from AArch64 SAS may be 3, SF either and SRT
-- anything
abbrev pub aarch32_access : DataAbort → Bool
aarch32_access r = not r.sf && ltb r.sas 3 && not (eqb r.srt 15) && not (eqb r.srt 31)

abbrev pub valid_syndrome_rule : Origin → DataAbort → Bool
valid_syndrome_rule o r = (from_aarch64 o || aarch32_access r) && not r.cm && not r.s1ptw

abbrev pub syndrome_rule : Origin → DataAbort → Bool
syndrome_rule o r = (r.isv || no_syndrome_rule r) && implies r.isv (valid_syndrome_rule o r)

-- SSE 1 needs SAS below 2 and WnR 0; from AArch64 it also goes with SAS 2 where SF is 1, and WnR 0 still
abbrev pub extension_from : Origin → DataAbort → Bool
extension_from o r = from_aarch64 o && r.sf && eqb r.sas 2 && not r.wnr || extension_rule r.sse r.sas r.wnr

abbrev pub data_rule : Origin → DataAbort → Bool
data_rule o r = syndrome_rule o r && extension_from o r && maintenance_rule r.cm r.wnr

-- a software step: EX only with ISV 1
abbrev pub step_rule : Bool → Bool → Bool
step_rule isv ex = implies ex isv

-- an SError interrupt: AET 0, 1, 2, 3 or 6, and EA either, with DFSC 0x11; with DFSC 0 both are 0; no other DFSC
abbrev pub error_type : ℕ → Bool
error_type aet = leb aet 3 || eqb aet 6

abbrev pub error_rule : ℕ → Bool → ℕ → Bool
error_rule aet ea code = eqb code 0 && eqb aet 0 && not ea || eqb code 0x11 && error_type aet

abbrev pub layout_rule : Origin → Record → Bool
layout_rule o (Record.Plain r) = true
layout_rule o (Record.Wfx r) = condition_from o r.cv r.cond
layout_rule o (Record.Mcr r) = condition_rule r.cv r.cond && direction_rule r.class r.direction
layout_rule o (Record.Mcrr r) = condition_rule r.cv r.cond && direction_rule r.class r.direction
layout_rule o (Record.Ldc r) = condition_rule r.cv r.cond && addressing_rule r.am r.direction
layout_rule o (Record.Simd r) = condition_from o r.cv r.cond
layout_rule o (Record.Call r) = immediate_rule r.il r.imm16
layout_rule o (Record.Smc r) = condition_rule r.cv r.cond && passed_rule r.ccknownpass r.cv r.cond
layout_rule o (Record.InstructionAbort r) = abort_rule r.fnv r.ea r.s1ptw r.code
layout_rule o (Record.DataAbort r) = abort_rule r.fnv r.ea r.s1ptw r.code && data_rule o r
layout_rule o (Record.Debug r) = true
layout_rule o (Record.Step r) = step_rule r.isv r.ex
layout_rule o (Record.Watchpoint r) = maintenance_rule r.cm r.wnr
layout_rule o (Record.SError r) = error_rule r.aet r.ea r.code
layout_rule o (Record.System r) = true
