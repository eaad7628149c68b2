-- `log_writer::put::pairs` meets its contract. The invariant: what is left of the entries, put behind those that were, gives what all of
-- them give. Assumes nothing.
use Rattle.log_section.specs.Log.{pair}
use Rattle.log_writer.proofs.Putting.{Putting}
use Rattle.trap_log.proofs.RoundTrip.{pair_sized}
use Rattle.log_writer.specs.Lists.{paired}
use Rattle.log_writer.proofs.put.pairs.Given as goal

abbrev pub invariant-loop-i : goal.invariant-loop-i
invariant-loop-i l = Putting pair 16 pair_sized (paired l.fars l.hpfars) l.initial.out l.initial.end l.out l.end l.i
