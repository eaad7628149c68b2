-- `log_writer::put::section` meets its contract. The invariant: what is left of the entries, put behind those that were, gives what all of
-- them give. Assumes nothing.
use Rattle.log_writer.proofs.Putting.{Putting}
use Rattle.log_writer.proofs.put.section.Given as goal

abbrev pub invariant-loop-entry : goal.invariant-loop-entry
invariant-loop-entry g l =
    Putting g.E.Entry.bytes g.E.Entry.size g.met.E.Entry.sized l.entries l.initial.out l.initial.end l.out l.end l.entry-index
