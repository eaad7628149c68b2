-- `log_writer::put::U16Entry::put` meets its contract.
-- Assumes nothing.
use mathlib.Core.Path.{refl, ◌∙◌}
use native.Mathlib.Omega.{arith}
use lib.ListN.{length-set}
use Rattle.log_writer.proofs.Putting.{low_bytes, two_stored}
use Rattle.log_writer.proofs.put.U16Entry.put.Goals as goal

pub bounds-out-at-2 : goal.bounds-out-at-2
bounds-out-at-2 c = simp length-set (omega arith)

pub returns : goal.returns
returns c =
    let a = c.args in
    (refl, two_stored a.out.now _ a.at a.self (c.to_le_bytes-bytes.ensures ∙ low_bytes 2 a.self))
