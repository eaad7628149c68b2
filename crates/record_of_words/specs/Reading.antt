-- The record whose words some words are, and else one that no edition has: a kind's number that is none, a flag above 1, and a word after
-- the fields that isn't 0 belong to no record.
use Rattle.std.specs.Prelude.{ℕ, zero, suc, Bool, true, cond, ◌&&◌, List, eqb, get_or}
use Rattle.record.specs.declared.kinds.Plain.{Plain}
use Rattle.record.specs.declared.kinds.Wfx.{Wfx}
use Rattle.record.specs.declared.kinds.Mcr.{Mcr}
use Rattle.record.specs.declared.kinds.Mcrr.{Mcrr}
use Rattle.record.specs.declared.kinds.Ldc.{Ldc}
use Rattle.record.specs.declared.kinds.Simd.{Simd}
use Rattle.record.specs.declared.kinds.Call.{Call}
use Rattle.record.specs.declared.kinds.Smc.{Smc}
use Rattle.record.specs.declared.kinds.InstructionAbort.{InstructionAbort}
use Rattle.record.specs.declared.kinds.DataAbort.{DataAbort}
use Rattle.record.specs.declared.kinds.Debug.{Debug}
use Rattle.record.specs.declared.kinds.Step.{Step}
use Rattle.record.specs.declared.kinds.Watchpoint.{Watchpoint}
use Rattle.record.specs.declared.kinds.SError.{SError}
use Rattle.record.specs.declared.kinds.System.{System}
use Rattle.record.specs.declared.kinds.Record.{Record}
use Rattle.record_words.specs.Words.{words_of}

abbrev pub word_in : List ℕ → ℕ → ℕ
word_in w i = get_or w i 0

abbrev pub flag_in : List ℕ → ℕ → Bool
flag_in w i = eqb (get_or w i 0) 1

abbrev pub plain_in : List ℕ → Plain
plain_in w = record { class = word_in w 1; il = flag_in w 2 }

abbrev pub wfx_in : List ℕ → Wfx
wfx_in w = record { il = flag_in w 1; cv = flag_in w 2; cond = word_in w 3; ti = flag_in w 4 }

abbrev pub mcr_in : List ℕ → Mcr
mcr_in w =
    record {
      class = word_in w 1;
      il = flag_in w 2;
      cv = flag_in w 3;
      cond = word_in w 4;
      opc2 = word_in w 5;
      opc1 = word_in w 6;
      crn = word_in w 7;
      rt = word_in w 8;
      crm = word_in w 9;
      direction = flag_in w 10;
    }

abbrev pub mcrr_in : List ℕ → Mcrr
mcrr_in w =
    record {
      class = word_in w 1;
      il = flag_in w 2;
      cv = flag_in w 3;
      cond = word_in w 4;
      opc1 = word_in w 5;
      rt2 = word_in w 6;
      rt = word_in w 7;
      crm = word_in w 8;
      direction = flag_in w 9;
    }

abbrev pub ldc_in : List ℕ → Ldc
ldc_in w =
    record {
      il = flag_in w 1;
      cv = flag_in w 2;
      cond = word_in w 3;
      imm8 = word_in w 4;
      rn = word_in w 5;
      offset = flag_in w 6;
      am = word_in w 7;
      direction = flag_in w 8;
    }

abbrev pub simd_in : List ℕ → Simd
simd_in w = record { il = flag_in w 1; cv = flag_in w 2; cond = word_in w 3 }

abbrev pub call_in : List ℕ → Call
call_in w = record { class = word_in w 1; il = flag_in w 2; imm16 = word_in w 3 }

abbrev pub smc_in : List ℕ → Smc
smc_in w = record { il = flag_in w 1; cv = flag_in w 2; cond = word_in w 3; ccknownpass = flag_in w 4 }

abbrev pub instruction_abort_in : List ℕ → InstructionAbort
instruction_abort_in w =
    record {
      il = flag_in w 1;
      set = word_in w 2;
      fnv = flag_in w 3;
      ea = flag_in w 4;
      s1ptw = flag_in w 5;
      code = word_in w 6;
    }

abbrev pub data_abort_in : List ℕ → DataAbort
data_abort_in w =
    record {
      il = flag_in w 1;
      isv = flag_in w 2;
      sas = word_in w 3;
      sse = flag_in w 4;
      srt = word_in w 5;
      sf = flag_in w 6;
      ar = flag_in w 7;
      set = word_in w 8;
      fnv = flag_in w 9;
      ea = flag_in w 10;
      cm = flag_in w 11;
      s1ptw = flag_in w 12;
      wnr = flag_in w 13;
      code = word_in w 14;
    }

abbrev pub debug_in : List ℕ → Debug
debug_in w = record { class = word_in w 1; il = flag_in w 2 }

abbrev pub step_in : List ℕ → Step
step_in w = record { il = flag_in w 1; isv = flag_in w 2; ex = flag_in w 3 }

abbrev pub watchpoint_in : List ℕ → Watchpoint
watchpoint_in w = record { il = flag_in w 1; cm = flag_in w 2; wnr = flag_in w 3 }

abbrev pub serror_in : List ℕ → SError
serror_in w = record { il = flag_in w 1; aet = word_in w 2; ea = flag_in w 3; code = word_in w 4 }

abbrev pub system_in : List ℕ → System
system_in w =
    record {
      il = flag_in w 1;
      op0 = word_in w 2;
      op2 = word_in w 3;
      op1 = word_in w 4;
      crn = word_in w 5;
      rt = word_in w 6;
      crm = word_in w 7;
      direction = flag_in w 8;
    }

-- class 64: EC has six bits (`none_has_it`, crate esr_calls: no edition has it)
abbrev pub no_record : Record
no_record = Record.Plain (record { class = 64; il = true })

-- the record that a kind's places hold
unfoldable pub record_by : ℕ → List ℕ → Record
record_by kind w =
    cond (eqb kind 0) (Record.Plain (plain_in w))
    (cond (eqb kind 1) (Record.Wfx (wfx_in w))
    (cond (eqb kind 2) (Record.Mcr (mcr_in w))
    (cond (eqb kind 3) (Record.Mcrr (mcrr_in w))
    (cond (eqb kind 4) (Record.Ldc (ldc_in w))
    (cond (eqb kind 5) (Record.Simd (simd_in w))
    (cond (eqb kind 6) (Record.Call (call_in w))
    (cond (eqb kind 7) (Record.Smc (smc_in w))
    (cond (eqb kind 8) (Record.InstructionAbort (instruction_abort_in w))
    (cond (eqb kind 9) (Record.DataAbort (data_abort_in w))
    (cond (eqb kind 10) (Record.Debug (debug_in w))
    (cond (eqb kind 11) (Record.Step (step_in w))
    (cond (eqb kind 12) (Record.Watchpoint (watchpoint_in w))
    (cond (eqb kind 13) (Record.SError (serror_in w))
    (cond (eqb kind 14) (Record.System (system_in w))
    no_record))))))))))))))

-- the first n words of two lists are the same
abbrev pub same_below : ℕ → List ℕ → List ℕ → Bool
same_below zero a b = true
same_below (suc n) a b = same_below n a b && eqb (get_or a n 0) (get_or b n 0)

-- the words are those of the record that their places hold
abbrev pub is_record : List ℕ → Bool
is_record w = same_below 16 (words_of (record_by (word_in w 0) w)) w

unfoldable pub record_of : List ℕ → Record
record_of w = cond (is_record w) (record_by (word_in w 0) w) no_record
