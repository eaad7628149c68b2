-- The record at a word's bits, by the layout of its class: the lines of crate short_layout (specs/Fields.antt) read the other way. Nothing
-- here has to be believed beside those lines: it takes the word of a record back to that record (`record-back`,
-- short_layout/proofs/RoundTrip.antt), and what a reader answers where no record makes the word is said over the word's own bits (crate
-- short, specs/Tests.antt).
use Prim.Native.Nat.{ℕ}
use mathlib.Core.Bool.{cond}
use lib.Dec.{eqb}
use Rattle·bits.specs.Among.{among}
use Rattle·bits.specs.Field.{bitOf, fieldOf}
use Rattle·record.specs.Class.{mcrClasses, mcrrClasses}
use Rattle·record.specs.Split.{plainAt, wfxAt, callAt, smcAt}
use Rattle·short_record·specs.specs.Class.{callClasses}
use Rattle·short_record·specs.specs.declared.kinds.Mcr.{Mcr}
use Rattle·short_record·specs.specs.declared.kinds.Mcrr.{Mcrr}
use Rattle·short_record·specs.specs.declared.kinds.Ldc.{Ldc}
use Rattle·short_record·specs.specs.declared.kinds.Simd.{Simd}
use Rattle·short_record·specs.specs.declared.kinds.InstructionAbort.{InstructionAbort}
use Rattle·short_record·specs.specs.declared.kinds.DataAbort.{DataAbort}
use Rattle·short_record·specs.specs.declared.kinds.Record.{Record}

abbrev pub mcrAt : ℕ → ℕ → Mcr
mcrAt class w =
    record {
      class = class;
      il = bitOf w 25;
      cv = bitOf w 24;
      cond = fieldOf w 23 20;
      opc2 = fieldOf w 19 17;
      opc1 = fieldOf w 16 14;
      crn = fieldOf w 13 10;
      rt = fieldOf w 8 5;
      crm = fieldOf w 4 1;
      direction = bitOf w 0;
    }

abbrev pub mcrrAt : ℕ → ℕ → Mcrr
mcrrAt class w =
    record {
      class = class;
      il = bitOf w 25;
      cv = bitOf w 24;
      cond = fieldOf w 23 20;
      opc1 = fieldOf w 19 16;
      rt2 = fieldOf w 13 10;
      rt = fieldOf w 8 5;
      crm = fieldOf w 4 1;
      direction = bitOf w 0;
    }

abbrev pub ldcAt : ℕ → Ldc
ldcAt w =
    record {
      il = bitOf w 25;
      cv = bitOf w 24;
      cond = fieldOf w 23 20;
      imm8 = fieldOf w 19 12;
      rn = fieldOf w 8 5;
      offset = bitOf w 4;
      am = fieldOf w 3 1;
      direction = bitOf w 0;
    }

abbrev pub simdAt : ℕ → Simd
simdAt w = record { il = bitOf w 25; cv = bitOf w 24; cond = fieldOf w 23 20; ta = bitOf w 5; coproc = fieldOf w 3 0 }

abbrev pub instructionAbortAt : ℕ → InstructionAbort
instructionAbortAt w = record { il = bitOf w 25; fnv = bitOf w 10; ea = bitOf w 9; s1ptw = bitOf w 7; code = fieldOf w 5 0 }

abbrev pub dataAbortAt : ℕ → DataAbort
dataAbortAt w =
    record {
      il = bitOf w 25;
      isv = bitOf w 24;
      sas = fieldOf w 23 22;
      sse = bitOf w 21;
      srt = fieldOf w 19 16;
      ar = bitOf w 14;
      aet = fieldOf w 11 10;
      ea = bitOf w 9;
      cm = bitOf w 8;
      s1ptw = bitOf w 7;
      wnr = bitOf w 6;
      code = fieldOf w 5 0;
    }

-- a class with no layout reads as one without fields, which its kind lacks (`headOf r .own` is false)
unfoldable pub recordOf : ℕ → ℕ → Record
recordOf class w =
    cond (eqb class 0x01) (Record.Wfx (wfxAt w))
    (cond (among mcrClasses class) (Record.Mcr (mcrAt class w))
    (cond (among mcrrClasses class) (Record.Mcrr (mcrrAt class w))
    (cond (eqb class 0x06) (Record.Ldc (ldcAt w))
    (cond (eqb class 0x07) (Record.Simd (simdAt w))
    (cond (among callClasses class) (Record.Call (callAt class w))
    (cond (eqb class 0x13) (Record.Smc (smcAt w))
    (cond (eqb class 0x20) (Record.InstructionAbort (instructionAbortAt w))
    (cond (eqb class 0x24) (Record.DataAbort (dataAbortAt w))
    (Record.Plain (plainAt class w))))))))))

-- the class is EC, 31:26
abbrev pub recordAt : ℕ → Record
recordAt w = recordOf (fieldOf w 31 26) w
