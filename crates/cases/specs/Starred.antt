-- The cases that document 01 marks with a star ('Cases from both sides of the line'), in its order.
use Rattle.std.specs.Prelude.{true, false, List, [], ◌∷◌}
use Rattle.record.specs.declared.kinds.Record.{Record}
use Rattle.cases.specs.Case.{Case, record_read, taken, refused, reads_in, reads, undefined_at, data_abort, data_abort_link}

-- a word store of register 3 that missed in the level 1 table
abbrev pub store_of_3 : Record
store_of_3 =
    Record.DataAbort
    record {
      il = true;
      isv = true;
      sas = 2;
      sse = false;
      srt = 3;
      sf = false;
      ar = false;
      set = 0;
      fnv = false;
      ea = false;
      cm = false;
      s1ptw = false;
      wnr = true;
      code = 5;
    }

-- What the paper leaves open is open here: the edition of `reads`, every part of the state that a case doesn't give, and the fault,
-- the address and the domain of a data abort.
abbrev pub starred : List Case
starred =
    reads 0x02000000 taken ∷ reads 0x00000000 (refused 4 0 0)
    ∷ reads 0x93830045 (record_read store_of_3) ∷ reads 0x91830005 taken ∷ reads 0x90000005 (refused 4 0 0)
    ∷ reads 0x93830085 (refused 5 0 0)
    ∷ reads_in 1 0x92000018 (refused 6 21845 8) ∷ reads_in 7 0x9200001B (refused 6 17476 4) ∷ reads_in 3 0x92000031 (refused 6 61680 8)
    ∷ reads_in 0 0x92001010 (refused 6 43690 8) ∷ reads 0x92000810 (refused 5 0 0) ∷ reads_in 1 0x93830014 (refused 6 21845 8)
    ∷ undefined_at record { status = 0x10; pc = 0x8000; vbar = 0x1000; sctlr = 0 } record { status = 0x9B; link = 0x8004; pc = 0x1004 }
    ∷ undefined_at record { status = 0x30; pc = 0x8000; vbar = 0x1000; sctlr = 0 } record { status = 0x9B; link = 0x8002; pc = 0x1004 }
    ∷ data_abort record { status = 0x10; sctlr = 0x42002000 } record { status = 0x3B7; pc = 0xFFFF0010 }
    ∷ data_abort_link record { status = 0x10; sctlr = 0x42002000 } 0xFFFFFFFC 4 ∷ []
