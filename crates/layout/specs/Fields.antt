-- The layout lines (01, 'Layout of the word'; for C-20's classes source 001; for C-23's 02): where a record's class, IL and fields stand in
-- the word. Bits that no line names are 0: so are IDS and IESB of an SError interrupt and VNCR of a watchpoint, which need features that no
-- edition has.
use Rattle.std.specs.Prelude.{ℕ, Bool, List, [], ◌∷◌}
use Rattle.bits.specs.Layout.{Field, at, flag_at, word_of}
use Rattle.record.specs.declared.kinds.Plain.{Plain}
use Rattle.record.specs.declared.kinds.Wfx.{Wfx}
use Rattle.record.specs.declared.kinds.Mcr.{Mcr}
use Rattle.record.specs.declared.kinds.Mcrr.{Mcrr}
use Rattle.record.specs.declared.kinds.Ldc.{Ldc}
use Rattle.record.specs.declared.kinds.Simd.{Simd}
use Rattle.record.specs.declared.kinds.Call.{Call}
use Rattle.record.specs.declared.kinds.Smc.{Smc}
use Rattle.record.specs.declared.kinds.InstructionAbort.{InstructionAbort}
use Rattle.record.specs.declared.kinds.DataAbort.{DataAbort}
use Rattle.record.specs.declared.kinds.Debug.{Debug}
use Rattle.record.specs.declared.kinds.Step.{Step}
use Rattle.record.specs.declared.kinds.Watchpoint.{Watchpoint}
use Rattle.record.specs.declared.kinds.SError.{SError}
use Rattle.record.specs.declared.kinds.System.{System}
use Rattle.record.specs.declared.kinds.Record.{Record}

-- EC is 31:26, IL 25, and the ISS stands below
abbrev pub head : ℕ → Bool → List Field → List Field
head class il iss = at 31 26 class ∷ flag_at 25 il ∷ iss

-- "C": CV bit 24, COND 23:20
abbrev pub condition : Bool → ℕ → List Field → List Field
condition cv cond rest = flag_at 24 cv ∷ at 23 20 cond ∷ rest

abbrev pub plain_fields : Plain → List Field
plain_fields r = head r.class r.il []

abbrev pub wfx_fields : Wfx → List Field
wfx_fields r = head 0x01 r.il (condition r.cv r.cond (flag_at 0 r.ti ∷ []))

abbrev pub mcr_fields : Mcr → List Field
mcr_fields r =
    head r.class r.il
    (condition r.cv r.cond
    (at 19 17 r.opc2 ∷ at 16 14 r.opc1 ∷ at 13 10 r.crn ∷ at 9 5 r.rt ∷ at 4 1 r.crm ∷ flag_at 0 r.direction ∷ []))

abbrev pub mcrr_fields : Mcrr → List Field
mcrr_fields r =
    head r.class r.il
    (condition r.cv r.cond
    (at 19 16 r.opc1 ∷ at 14 10 r.rt2 ∷ at 9 5 r.rt ∷ at 4 1 r.crm ∷ flag_at 0 r.direction ∷ []))

abbrev pub ldc_fields : Ldc → List Field
ldc_fields r =
    head 0x06 r.il
    (condition r.cv r.cond
    (at 19 12 r.imm8 ∷ at 9 5 r.rn ∷ flag_at 4 r.offset ∷ at 3 1 r.am ∷ flag_at 0 r.direction ∷ []))

abbrev pub simd_fields : Simd → List Field
simd_fields r = head 0x07 r.il (condition r.cv r.cond [])

abbrev pub call_fields : Call → List Field
call_fields r = head r.class r.il (at 15 0 r.imm16 ∷ [])

abbrev pub smc_fields : Smc → List Field
smc_fields r = head 0x13 r.il (condition r.cv r.cond (flag_at 19 r.ccknownpass ∷ []))

abbrev pub instruction_abort_fields : InstructionAbort → List Field
instruction_abort_fields r =
    head 0x20 r.il
    (at 12 11 r.set ∷ flag_at 10 r.fnv ∷ flag_at 9 r.ea ∷ flag_at 7 r.s1ptw ∷ at 5 0 r.code ∷ [])

abbrev pub data_abort_fields : DataAbort → List Field
data_abort_fields r =
    head 0x24 r.il
    (flag_at 24 r.isv ∷ at 23 22 r.sas ∷ flag_at 21 r.sse ∷ at 20 16 r.srt ∷ flag_at 15 r.sf ∷ flag_at 14 r.ar
    ∷ at 12 11 r.set ∷ flag_at 10 r.fnv ∷ flag_at 9 r.ea ∷ flag_at 8 r.cm ∷ flag_at 7 r.s1ptw ∷ flag_at 6 r.wnr
    ∷ at 5 0 r.code ∷ [])

-- 0x30 and 0x3A, 0x32 and 0x34: the fault code is 0x22, a debug exception, and no other
abbrev pub debug_code : ℕ
debug_code = 0x22

abbrev pub debug_fields : Debug → List Field
debug_fields r = head r.class r.il (at 5 0 debug_code ∷ [])

abbrev pub step_fields : Step → List Field
step_fields r = head 0x32 r.il (flag_at 24 r.isv ∷ flag_at 6 r.ex ∷ at 5 0 debug_code ∷ [])

abbrev pub watchpoint_fields : Watchpoint → List Field
watchpoint_fields r = head 0x34 r.il (flag_at 8 r.cm ∷ flag_at 6 r.wnr ∷ at 5 0 debug_code ∷ [])

abbrev pub serror_fields : SError → List Field
serror_fields r = head 0x2F r.il (at 12 10 r.aet ∷ flag_at 9 r.ea ∷ at 5 0 r.code ∷ [])

abbrev pub system_fields : System → List Field
system_fields r =
    head 0x18 r.il
    (at 21 20 r.op0 ∷ at 19 17 r.op2 ∷ at 16 14 r.op1 ∷ at 13 10 r.crn ∷ at 9 5 r.rt ∷ at 4 1 r.crm
    ∷ flag_at 0 r.direction ∷ [])

abbrev pub fields_of : Record → List Field
fields_of (Record.Plain r) = plain_fields r
fields_of (Record.Wfx r) = wfx_fields r
fields_of (Record.Mcr r) = mcr_fields r
fields_of (Record.Mcrr r) = mcrr_fields r
fields_of (Record.Ldc r) = ldc_fields r
fields_of (Record.Simd r) = simd_fields r
fields_of (Record.Call r) = call_fields r
fields_of (Record.Smc r) = smc_fields r
fields_of (Record.InstructionAbort r) = instruction_abort_fields r
fields_of (Record.DataAbort r) = data_abort_fields r
fields_of (Record.Debug r) = debug_fields r
fields_of (Record.Step r) = step_fields r
fields_of (Record.Watchpoint r) = watchpoint_fields r
fields_of (Record.SError r) = serror_fields r
fields_of (Record.System r) = system_fields r

-- the word of a record: its class and fields at their bits, every other bit 0
abbrev pub record_word : Record → ℕ
record_word r = word_of (fields_of r)
