-- `log_cut::start` meets its contract: the reader stands there, or nothing is left.
-- Assumes nothing.
use native.Mathlib.Omega.{arith}
use Rattle.log_cut.proofs.Rests.{starts_there, nothing_left}
use Rattle.log_cut.proofs.start.Goals as goal

pub returns-then-reached-passed : goal.returns-then-reached-passed
returns-then-reached-passed c =
    let start = c in
    starts_there start.args.log.now start.args.passed _ (omega (arith, start.requires)) c.skip-place.ensures c.if-reached-passed.true

pub returns : goal.returns
returns c =
    let start = c in
    nothing_left start.args.log.now start.args.passed _ (omega (arith, start.requires)) c.skip-place.ensures c.if-reached-passed.false
