-- Laws of the sorts of exception.
-- Assumes nothing.
use mathlib.Core.Path.{◌≡◌, ap}
use mathlib.Core.Bool.{Bool, true, false, cond}
use lib.Dec.{eqb}
use Rattle.bits.proofs.Arms.{absurd_answer}
use Rattle.record.specs.Sort.{sort_of}
use Rattle.record.specs.declared.kinds.DataAbort.{DataAbort}
use Rattle.record.specs.declared.kinds.Record.{Record}
use Rattle.record.specs.declared.kinds.Sort.{Sort}

-- only a data abort's record is of that sort
pub data_abort_sort : (r : Record) {a : DataAbort} → sort_of r ≡ Sort.DataAbort a → r ≡ Record.DataAbort a
data_abort_sort (Record.Plain x) {a} e = by (eqb x.class 0x22) e
  where
    by : (b : Bool) → cond b Sort.Addressed Sort.Plain ≡ Sort.DataAbort a → Record.Plain x ≡ Record.DataAbort a
    by true q = absurd_answer (cc)
    by false q = absurd_answer (cc)
data_abort_sort (Record.Wfx x) e = absurd_answer (cc)
data_abort_sort (Record.Mcr x) e = absurd_answer (cc)
data_abort_sort (Record.Mcrr x) e = absurd_answer (cc)
data_abort_sort (Record.Ldc x) e = absurd_answer (cc)
data_abort_sort (Record.Simd x) e = absurd_answer (cc)
data_abort_sort (Record.Call x) e = absurd_answer (cc)
data_abort_sort (Record.Smc x) e = absurd_answer (cc)
data_abort_sort (Record.InstructionAbort x) e = absurd_answer (cc)
data_abort_sort (Record.DataAbort x) {a} e = let s : x ≡ a = cc in ap Record.DataAbort s
data_abort_sort (Record.Debug x) e = absurd_answer (cc)
data_abort_sort (Record.Step x) e = absurd_answer (cc)
data_abort_sort (Record.Watchpoint x) e = absurd_answer (cc)
data_abort_sort (Record.SError x) e = absurd_answer (cc)
data_abort_sort (Record.System x) e = absurd_answer (cc)
