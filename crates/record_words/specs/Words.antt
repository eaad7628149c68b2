-- A record's words: the number of its kind, its fields in the order of its struct, and zeros up to sixteen.
use Rattle.std.specs.Prelude.{ℕ, Bool, List, ◌∷◌, replicate}
use mir.Val.{bool_byte}
use Rattle.record.specs.declared.kinds.Plain.{Plain}
use Rattle.record.specs.declared.kinds.Wfx.{Wfx}
use Rattle.record.specs.declared.kinds.Mcr.{Mcr}
use Rattle.record.specs.declared.kinds.Mcrr.{Mcrr}
use Rattle.record.specs.declared.kinds.Ldc.{Ldc}
use Rattle.record.specs.declared.kinds.Simd.{Simd}
use Rattle.record.specs.declared.kinds.Call.{Call}
use Rattle.record.specs.declared.kinds.Smc.{Smc}
use Rattle.record.specs.declared.kinds.InstructionAbort.{InstructionAbort}
use Rattle.record.specs.declared.kinds.DataAbort.{DataAbort}
use Rattle.record.specs.declared.kinds.Debug.{Debug}
use Rattle.record.specs.declared.kinds.Step.{Step}
use Rattle.record.specs.declared.kinds.Watchpoint.{Watchpoint}
use Rattle.record.specs.declared.kinds.SError.{SError}
use Rattle.record.specs.declared.kinds.System.{System}
use Rattle.record.specs.declared.kinds.Record.{Record}

-- a flag is 1, or 0 where it is false (`flag_true` and `flag_false`, crate record_of_words): what the language makes of a bool
abbrev pub flag : Bool → ℕ
flag b = bool_byte b

abbrev pub zeros : ℕ → List ℕ
zeros n = replicate n 0

abbrev pub plain_words : Plain → List ℕ
plain_words r = 0 ∷ r.class ∷ flag r.il ∷ zeros 13

abbrev pub wfx_words : Wfx → List ℕ
wfx_words r = 1 ∷ flag r.il ∷ flag r.cv ∷ r.cond ∷ flag r.ti ∷ zeros 11

abbrev pub mcr_words : Mcr → List ℕ
mcr_words r =
    2 ∷ r.class ∷ flag r.il ∷ flag r.cv ∷ r.cond ∷ r.opc2 ∷ r.opc1 ∷ r.crn ∷ r.rt ∷ r.crm ∷ flag r.direction ∷ zeros 5

abbrev pub mcrr_words : Mcrr → List ℕ
mcrr_words r = 3 ∷ r.class ∷ flag r.il ∷ flag r.cv ∷ r.cond ∷ r.opc1 ∷ r.rt2 ∷ r.rt ∷ r.crm ∷ flag r.direction ∷ zeros 6

abbrev pub ldc_words : Ldc → List ℕ
ldc_words r = 4 ∷ flag r.il ∷ flag r.cv ∷ r.cond ∷ r.imm8 ∷ r.rn ∷ flag r.offset ∷ r.am ∷ flag r.direction ∷ zeros 7

abbrev pub simd_words : Simd → List ℕ
simd_words r = 5 ∷ flag r.il ∷ flag r.cv ∷ r.cond ∷ zeros 12

abbrev pub call_words : Call → List ℕ
call_words r = 6 ∷ r.class ∷ flag r.il ∷ r.imm16 ∷ zeros 12

abbrev pub smc_words : Smc → List ℕ
smc_words r = 7 ∷ flag r.il ∷ flag r.cv ∷ r.cond ∷ flag r.ccknownpass ∷ zeros 11

abbrev pub instruction_abort_words : InstructionAbort → List ℕ
instruction_abort_words r = 8 ∷ flag r.il ∷ r.set ∷ flag r.fnv ∷ flag r.ea ∷ flag r.s1ptw ∷ r.code ∷ zeros 9

abbrev pub data_abort_words : DataAbort → List ℕ
data_abort_words r =
    9 ∷ flag r.il ∷ flag r.isv ∷ r.sas ∷ flag r.sse ∷ r.srt ∷ flag r.sf ∷ flag r.ar ∷ r.set ∷ flag r.fnv
    ∷ flag r.ea ∷ flag r.cm ∷ flag r.s1ptw ∷ flag r.wnr ∷ r.code ∷ zeros 1

abbrev pub debug_words : Debug → List ℕ
debug_words r = 10 ∷ r.class ∷ flag r.il ∷ zeros 13

abbrev pub step_words : Step → List ℕ
step_words r = 11 ∷ flag r.il ∷ flag r.isv ∷ flag r.ex ∷ zeros 12

abbrev pub watchpoint_words : Watchpoint → List ℕ
watchpoint_words r = 12 ∷ flag r.il ∷ flag r.cm ∷ flag r.wnr ∷ zeros 12

abbrev pub serror_words : SError → List ℕ
serror_words r = 13 ∷ flag r.il ∷ r.aet ∷ flag r.ea ∷ r.code ∷ zeros 11

abbrev pub system_words : System → List ℕ
system_words r = 14 ∷ flag r.il ∷ r.op0 ∷ r.op2 ∷ r.op1 ∷ r.crn ∷ r.rt ∷ r.crm ∷ flag r.direction ∷ zeros 7

abbrev pub words_of : Record → List ℕ
words_of (Record.Plain r) = plain_words r
words_of (Record.Wfx r) = wfx_words r
words_of (Record.Mcr r) = mcr_words r
words_of (Record.Mcrr r) = mcrr_words r
words_of (Record.Ldc r) = ldc_words r
words_of (Record.Simd r) = simd_words r
words_of (Record.Call r) = call_words r
words_of (Record.Smc r) = smc_words r
words_of (Record.InstructionAbort r) = instruction_abort_words r
words_of (Record.DataAbort r) = data_abort_words r
words_of (Record.Debug r) = debug_words r
words_of (Record.Step r) = step_words r
words_of (Record.Watchpoint r) = watchpoint_words r
words_of (Record.SError r) = serror_words r
words_of (Record.System r) = system_words r
