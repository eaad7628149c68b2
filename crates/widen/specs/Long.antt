-- The long record of a short one, before any test (request C-11 of document 02): its registers are mapped, an UNKNOWN IL is 1, class 0x07
-- loses TA and coproc, and what the short form lacks, SET and SF, is 0. Every other field stays.
use Rattle.std.specs.Prelude.{ℕ, false, ◌||◌, eqb}
use Rattle.record.specs.declared.kinds.Plain.{Plain}
use Rattle.record.specs.declared.kinds.Mcr.{Mcr}
use Rattle.record.specs.declared.kinds.Mcrr.{Mcrr}
use Rattle.record.specs.declared.kinds.Ldc.{Ldc}
use Rattle.record.specs.declared.kinds.Simd.{Simd}
use Rattle.record.specs.declared.kinds.InstructionAbort.{InstructionAbort}
use Rattle.record.specs.declared.kinds.DataAbort.{DataAbort}
use Rattle.record.specs.declared.kinds.Record.{Record as Long}
use Rattle.short_record.specs.declared.kinds.Mcr.{Mcr as ShortMcr}
use Rattle.short_record.specs.declared.kinds.Mcrr.{Mcrr as ShortMcrr}
use Rattle.short_record.specs.declared.kinds.Ldc.{Ldc as ShortLdc}
use Rattle.short_record.specs.declared.kinds.Simd.{Simd as ShortSimd}
use Rattle.short_record.specs.declared.kinds.InstructionAbort.{InstructionAbort as ShortInstructionAbort}
use Rattle.short_record.specs.declared.kinds.DataAbort.{DataAbort as ShortDataAbort}
use Rattle.short_record.specs.declared.kinds.Record.{Record as Short}
use Rattle.short_rule.specs.Il.{il_unknown}
use Rattle.widen.specs.Register.{mapped, base}

abbrev pub long_plain : Plain → Plain
long_plain r = record { class = r.class; il = r.il || il_unknown r.class }

abbrev pub long_mcr : ℕ → ShortMcr → Mcr
long_mcr mode r =
    record {
      class = r.class;
      il = r.il;
      cv = r.cv;
      cond = r.cond;
      opc2 = r.opc2;
      opc1 = r.opc1;
      crn = r.crn;
      rt = mapped mode r.rt;
      crm = r.crm;
      direction = r.direction;
    }

abbrev pub long_mcrr : ℕ → ShortMcrr → Mcrr
long_mcrr mode r =
    record {
      class = r.class;
      il = r.il;
      cv = r.cv;
      cond = r.cond;
      opc1 = r.opc1;
      rt2 = mapped mode r.rt2;
      rt = mapped mode r.rt;
      crm = r.crm;
      direction = r.direction;
    }

abbrev pub long_ldc : ℕ → ShortLdc → Ldc
long_ldc mode r =
    record {
      il = r.il;
      cv = r.cv;
      cond = r.cond;
      imm8 = r.imm8;
      rn = base mode r.am r.rn;
      offset = r.offset;
      am = r.am;
      direction = r.direction;
    }

abbrev pub long_simd : ShortSimd → Simd
long_simd r = record { il = r.il; cv = r.cv; cond = r.cond }

abbrev pub long_instruction_abort : ShortInstructionAbort → InstructionAbort
long_instruction_abort r = record { il = r.il; set = 0; fnv = r.fnv; ea = r.ea; s1ptw = r.s1ptw; code = r.code }

-- FnV is bits 11:10 with every code but 0x11, which no long edition has
abbrev pub long_data_abort : ℕ → ShortDataAbort → DataAbort
long_data_abort mode r =
    record {
      il = r.il;
      isv = r.isv;
      sas = r.sas;
      sse = r.sse;
      srt = mapped mode r.srt;
      sf = false;
      ar = r.ar;
      set = 0;
      fnv = eqb r.aet 1;
      ea = r.ea;
      cm = r.cm;
      s1ptw = r.s1ptw;
      wnr = r.wnr;
      code = r.code;
    }

abbrev pub long_of : ℕ → Short → Long
long_of mode (Short.Plain r) = Long.Plain (long_plain r)
long_of mode (Short.Wfx r) = Long.Wfx r
long_of mode (Short.Mcr r) = Long.Mcr (long_mcr mode r)
long_of mode (Short.Mcrr r) = Long.Mcrr (long_mcrr mode r)
long_of mode (Short.Ldc r) = Long.Ldc (long_ldc mode r)
long_of mode (Short.Simd r) = Long.Simd (long_simd r)
long_of mode (Short.Call r) = Long.Call r
long_of mode (Short.Smc r) = Long.Smc r
long_of mode (Short.InstructionAbort r) = Long.InstructionAbort (long_instruction_abort r)
long_of mode (Short.DataAbort r) = Long.DataAbort (long_data_abort mode r)
