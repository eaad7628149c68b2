-- `log_cut::cut_after` meets its contract: the part of the log from the section's start on is its rest.
-- Assumes nothing.
use Rattle.log_cut.proofs.Given.{cut_nowhere}
use Rattle.log_cut.proofs.cut_after.Goals as goal

pub returns-then-passed-ge4 : goal.returns-then-passed-ge4
returns-then-passed-ge4 c =
    let a = c.args in
    cut_nowhere a.log.now a.passed c.if-passed-ge4.true
