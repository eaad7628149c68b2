-- `log_writer::put::U8Entry::put` meets its contract.
-- Assumes nothing.
use mathlib.Core.Path.{refl}
use Rattle.log_writer.proofs.Putting.{byte_stored}
use Rattle.log_writer.proofs.put.U8Entry.put.Goals as goal

pub returns : goal.returns
returns c = (refl, byte_stored c.args.out.now c.args.at c.args.self c.ranges.self.fits)
