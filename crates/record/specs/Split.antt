-- The record at a word's bits, by the layout of its class: the lines of crate layout (specs/Fields.antt) read the other way. Nothing here
-- has to be believed beside those lines: it takes the word of a record back to that record (`record_back`, layout/proofs/RoundTrip.antt),
-- and what a reader answers where no record makes the word is said over the word's own bits (crate syndrome, specs/Tests.antt).
use Rattle.std.specs.Prelude.{ℕ, cond, eqb}
use Rattle.bits.specs.Among.{among}
use Rattle.bits.specs.Field.{bit_of, field_of}
use Rattle.record.specs.Class.{mcr_classes, mcrr_classes, call_classes, debug_classes}
use Rattle.record.specs.declared.kinds.Plain.{Plain}
use Rattle.record.specs.declared.kinds.Wfx.{Wfx}
use Rattle.record.specs.declared.kinds.Mcr.{Mcr}
use Rattle.record.specs.declared.kinds.Mcrr.{Mcrr}
use Rattle.record.specs.declared.kinds.Ldc.{Ldc}
use Rattle.record.specs.declared.kinds.Simd.{Simd}
use Rattle.record.specs.declared.kinds.Call.{Call}
use Rattle.record.specs.declared.kinds.Smc.{Smc}
use Rattle.record.specs.declared.kinds.InstructionAbort.{InstructionAbort}
use Rattle.record.specs.declared.kinds.DataAbort.{DataAbort}
use Rattle.record.specs.declared.kinds.Debug.{Debug}
use Rattle.record.specs.declared.kinds.Step.{Step}
use Rattle.record.specs.declared.kinds.Watchpoint.{Watchpoint}
use Rattle.record.specs.declared.kinds.SError.{SError}
use Rattle.record.specs.declared.kinds.System.{System}
use Rattle.record.specs.declared.kinds.Record.{Record}

abbrev pub plain_at : ℕ → ℕ → Plain
plain_at class w = record { class = class; il = bit_of w 25 }

abbrev pub wfx_at : ℕ → Wfx
wfx_at w = record { il = bit_of w 25; cv = bit_of w 24; cond = field_of w 23 20; ti = bit_of w 0 }

abbrev pub mcr_at : ℕ → ℕ → Mcr
mcr_at class w =
    record {
      class = class;
      il = bit_of w 25;
      cv = bit_of w 24;
      cond = field_of w 23 20;
      opc2 = field_of w 19 17;
      opc1 = field_of w 16 14;
      crn = field_of w 13 10;
      rt = field_of w 9 5;
      crm = field_of w 4 1;
      direction = bit_of w 0;
    }

abbrev pub mcrr_at : ℕ → ℕ → Mcrr
mcrr_at class w =
    record {
      class = class;
      il = bit_of w 25;
      cv = bit_of w 24;
      cond = field_of w 23 20;
      opc1 = field_of w 19 16;
      rt2 = field_of w 14 10;
      rt = field_of w 9 5;
      crm = field_of w 4 1;
      direction = bit_of w 0;
    }

abbrev pub ldc_at : ℕ → Ldc
ldc_at w =
    record {
      il = bit_of w 25;
      cv = bit_of w 24;
      cond = field_of w 23 20;
      imm8 = field_of w 19 12;
      rn = field_of w 9 5;
      offset = bit_of w 4;
      am = field_of w 3 1;
      direction = bit_of w 0;
    }

abbrev pub simd_at : ℕ → Simd
simd_at w = record { il = bit_of w 25; cv = bit_of w 24; cond = field_of w 23 20 }

abbrev pub call_at : ℕ → ℕ → Call
call_at class w = record { class = class; il = bit_of w 25; imm16 = field_of w 15 0 }

abbrev pub smc_at : ℕ → Smc
smc_at w = record { il = bit_of w 25; cv = bit_of w 24; cond = field_of w 23 20; ccknownpass = bit_of w 19 }

abbrev pub instruction_abort_at : ℕ → InstructionAbort
instruction_abort_at w =
    record {
      il = bit_of w 25;
      set = field_of w 12 11;
      fnv = bit_of w 10;
      ea = bit_of w 9;
      s1ptw = bit_of w 7;
      code = field_of w 5 0;
    }

abbrev pub data_abort_at : ℕ → DataAbort
data_abort_at w =
    record {
      il = bit_of w 25;
      isv = bit_of w 24;
      sas = field_of w 23 22;
      sse = bit_of w 21;
      srt = field_of w 20 16;
      sf = bit_of w 15;
      ar = bit_of w 14;
      set = field_of w 12 11;
      fnv = bit_of w 10;
      ea = bit_of w 9;
      cm = bit_of w 8;
      s1ptw = bit_of w 7;
      wnr = bit_of w 6;
      code = field_of w 5 0;
    }

abbrev pub debug_at : ℕ → ℕ → Debug
debug_at class w = record { class = class; il = bit_of w 25 }

abbrev pub step_at : ℕ → Step
step_at w = record { il = bit_of w 25; isv = bit_of w 24; ex = bit_of w 6 }

abbrev pub watchpoint_at : ℕ → Watchpoint
watchpoint_at w = record { il = bit_of w 25; cm = bit_of w 8; wnr = bit_of w 6 }

abbrev pub serror_at : ℕ → SError
serror_at w = record { il = bit_of w 25; aet = field_of w 12 10; ea = bit_of w 9; code = field_of w 5 0 }

abbrev pub system_at : ℕ → System
system_at w =
    record {
      il = bit_of w 25;
      op0 = field_of w 21 20;
      op2 = field_of w 19 17;
      op1 = field_of w 16 14;
      crn = field_of w 13 10;
      rt = field_of w 9 5;
      crm = field_of w 4 1;
      direction = bit_of w 0;
    }

-- a class with no layout reads as one without fields, which its kind lacks (`(head_of r).own` is false)
unfoldable pub record_of : ℕ → ℕ → Record
record_of class w =
    cond (eqb class 0x01) (Record.Wfx (wfx_at w))
    (cond (among mcr_classes class) (Record.Mcr (mcr_at class w))
    (cond (among mcrr_classes class) (Record.Mcrr (mcrr_at class w))
    (cond (eqb class 0x06) (Record.Ldc (ldc_at w))
    (cond (eqb class 0x07) (Record.Simd (simd_at w))
    (cond (among call_classes class) (Record.Call (call_at class w))
    (cond (eqb class 0x13) (Record.Smc (smc_at w))
    (cond (eqb class 0x20) (Record.InstructionAbort (instruction_abort_at w))
    (cond (eqb class 0x24) (Record.DataAbort (data_abort_at w))
    (cond (among debug_classes class) (Record.Debug (debug_at class w))
    (cond (eqb class 0x32) (Record.Step (step_at w))
    (cond (eqb class 0x34) (Record.Watchpoint (watchpoint_at w))
    (cond (eqb class 0x2F) (Record.SError (serror_at w))
    (cond (eqb class 0x18) (Record.System (system_at w))
    (Record.Plain (plain_at class w)))))))))))))))

-- the class is EC, 31:26
abbrev pub record_at : ℕ → Record
record_at w = record_of (field_of w 31 26) w
