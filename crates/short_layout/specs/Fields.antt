-- The layout lines of the short form (source 004): where a record's class, IL and fields stand in the word. Bits that no line names are 0.
-- The kinds without a register have 01's lines, which source 004 shows alike.
use Rattle.std.specs.Prelude.{ℕ, List, [], ◌∷◌}
use Rattle.bits.specs.Layout.{Field, at, flag_at, word_of}
use Rattle.layout.specs.Fields.{head, condition, plain_fields, wfx_fields, call_fields, smc_fields}
use Rattle.short_record.specs.declared.kinds.Mcr.{Mcr}
use Rattle.short_record.specs.declared.kinds.Mcrr.{Mcrr}
use Rattle.short_record.specs.declared.kinds.Ldc.{Ldc}
use Rattle.short_record.specs.declared.kinds.Simd.{Simd}
use Rattle.short_record.specs.declared.kinds.InstructionAbort.{InstructionAbort}
use Rattle.short_record.specs.declared.kinds.DataAbort.{DataAbort}
use Rattle.short_record.specs.declared.kinds.Record.{Record}

-- Rt 8:5
abbrev pub mcr_fields : Mcr → List Field
mcr_fields r =
    head r.class r.il
    (condition r.cv r.cond
    (at 19 17 r.opc2 ∷ at 16 14 r.opc1 ∷ at 13 10 r.crn ∷ at 8 5 r.rt ∷ at 4 1 r.crm ∷ flag_at 0 r.direction ∷ []))

-- Rt2 13:10, Rt 8:5
abbrev pub mcrr_fields : Mcrr → List Field
mcrr_fields r =
    head r.class r.il
    (condition r.cv r.cond
    (at 19 16 r.opc1 ∷ at 13 10 r.rt2 ∷ at 8 5 r.rt ∷ at 4 1 r.crm ∷ flag_at 0 r.direction ∷ []))

-- Rn 8:5
abbrev pub ldc_fields : Ldc → List Field
ldc_fields r =
    head 0x06 r.il
    (condition r.cv r.cond
    (at 19 12 r.imm8 ∷ at 8 5 r.rn ∷ flag_at 4 r.offset ∷ at 3 1 r.am ∷ flag_at 0 r.direction ∷ []))

-- TA 5, coproc 3:0
abbrev pub simd_fields : Simd → List Field
simd_fields r = head 0x07 r.il (condition r.cv r.cond (flag_at 5 r.ta ∷ at 3 0 r.coproc ∷ []))

-- no SET
abbrev pub instruction_abort_fields : InstructionAbort → List Field
instruction_abort_fields r =
    head 0x20 r.il (flag_at 10 r.fnv ∷ flag_at 9 r.ea ∷ flag_at 7 r.s1ptw ∷ at 5 0 r.code ∷ [])

-- SRT 19:16, no SF and no SET, and AET or FnV in 11:10
abbrev pub data_abort_fields : DataAbort → List Field
data_abort_fields r =
    head 0x24 r.il
    (flag_at 24 r.isv ∷ at 23 22 r.sas ∷ flag_at 21 r.sse ∷ at 19 16 r.srt ∷ flag_at 14 r.ar ∷ at 11 10 r.aet
    ∷ flag_at 9 r.ea ∷ flag_at 8 r.cm ∷ flag_at 7 r.s1ptw ∷ flag_at 6 r.wnr ∷ at 5 0 r.code ∷ [])

abbrev pub fields_of : Record → List Field
fields_of (Record.Plain r) = plain_fields r
fields_of (Record.Wfx r) = wfx_fields r
fields_of (Record.Mcr r) = mcr_fields r
fields_of (Record.Mcrr r) = mcrr_fields r
fields_of (Record.Ldc r) = ldc_fields r
fields_of (Record.Simd r) = simd_fields r
fields_of (Record.Call r) = call_fields r
fields_of (Record.Smc r) = smc_fields r
fields_of (Record.InstructionAbort r) = instruction_abort_fields r
fields_of (Record.DataAbort r) = data_abort_fields r

-- the word of a record: its class and fields at their bits, every other bit 0
abbrev pub record_word : Record → ℕ
record_word r = word_of (fields_of r)
