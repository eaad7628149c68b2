-- The short record whose words some words are, and else one that no edition has, as with long records.
use Rattle.std.specs.Prelude.{ℕ, Bool, true, cond, List, eqb}
use Rattle.short_record.specs.declared.kinds.Mcr.{Mcr}
use Rattle.short_record.specs.declared.kinds.Mcrr.{Mcrr}
use Rattle.short_record.specs.declared.kinds.Ldc.{Ldc}
use Rattle.short_record.specs.declared.kinds.Simd.{Simd}
use Rattle.short_record.specs.declared.kinds.InstructionAbort.{InstructionAbort}
use Rattle.short_record.specs.declared.kinds.DataAbort.{DataAbort}
use Rattle.short_record.specs.declared.kinds.Record.{Record}
use Rattle.record_of_words.specs.Reading.{word_in, flag_in, plain_in, wfx_in, call_in, smc_in, same_below}
use Rattle.short_words.specs.Words.{words_of}

abbrev pub mcr_in : List ℕ → Mcr
mcr_in w =
    record {
      class = word_in w 1;
      il = flag_in w 2;
      cv = flag_in w 3;
      cond = word_in w 4;
      opc2 = word_in w 5;
      opc1 = word_in w 6;
      crn = word_in w 7;
      rt = word_in w 8;
      crm = word_in w 9;
      direction = flag_in w 10;
    }

abbrev pub mcrr_in : List ℕ → Mcrr
mcrr_in w =
    record {
      class = word_in w 1;
      il = flag_in w 2;
      cv = flag_in w 3;
      cond = word_in w 4;
      opc1 = word_in w 5;
      rt2 = word_in w 6;
      rt = word_in w 7;
      crm = word_in w 8;
      direction = flag_in w 9;
    }

abbrev pub ldc_in : List ℕ → Ldc
ldc_in w =
    record {
      il = flag_in w 1;
      cv = flag_in w 2;
      cond = word_in w 3;
      imm8 = word_in w 4;
      rn = word_in w 5;
      offset = flag_in w 6;
      am = word_in w 7;
      direction = flag_in w 8;
    }

abbrev pub simd_in : List ℕ → Simd
simd_in w = record { il = flag_in w 1; cv = flag_in w 2; cond = word_in w 3; ta = flag_in w 4; coproc = word_in w 5 }

abbrev pub instruction_abort_in : List ℕ → InstructionAbort
instruction_abort_in w = record { il = flag_in w 1; fnv = flag_in w 2; ea = flag_in w 3; s1ptw = flag_in w 4; code = word_in w 5 }

abbrev pub data_abort_in : List ℕ → DataAbort
data_abort_in w =
    record {
      il = flag_in w 1;
      isv = flag_in w 2;
      sas = word_in w 3;
      sse = flag_in w 4;
      srt = word_in w 5;
      ar = flag_in w 6;
      aet = word_in w 7;
      ea = flag_in w 8;
      cm = flag_in w 9;
      s1ptw = flag_in w 10;
      wnr = flag_in w 11;
      code = word_in w 12;
    }

-- class 64: EC has six bits
abbrev pub no_record : Record
no_record = Record.Plain (record { class = 64; il = true })

-- the record that a kind's places hold
unfoldable pub record_by : ℕ → List ℕ → Record
record_by kind w =
    cond (eqb kind 0) (Record.Plain (plain_in w))
    (cond (eqb kind 1) (Record.Wfx (wfx_in w))
    (cond (eqb kind 2) (Record.Mcr (mcr_in w))
    (cond (eqb kind 3) (Record.Mcrr (mcrr_in w))
    (cond (eqb kind 4) (Record.Ldc (ldc_in w))
    (cond (eqb kind 5) (Record.Simd (simd_in w))
    (cond (eqb kind 6) (Record.Call (call_in w))
    (cond (eqb kind 7) (Record.Smc (smc_in w))
    (cond (eqb kind 8) (Record.InstructionAbort (instruction_abort_in w))
    (cond (eqb kind 9) (Record.DataAbort (data_abort_in w))
    no_record)))))))))

-- the words are those of the record that their places hold
abbrev pub is_record : List ℕ → Bool
is_record w = same_below 16 (words_of (record_by (word_in w 0) w)) w

unfoldable pub record_of : List ℕ → Record
record_of w = cond (is_record w) (record_by (word_in w 0) w) no_record
