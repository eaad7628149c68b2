-- `log_pieces::count` meets its contract: a piece for the answer and one for the cut, and one for each edition, trap and injection.
-- Assumes nothing.
use Rattle.std.proofs.Common.{arith}
use Rattle.log_pieces.proofs.Shown.{few_shown}
use Rattle.log_pieces.proofs.Placed.{pieces_counted}
use Rattle.log_pieces.proofs.count.Goals as goal

pub overflow_add-result : goal.overflow_add-result
overflow_add-result c = omega (arith, few_shown c.args.log.now)

pub overflow_add-result-2 : goal.overflow_add-result-2
overflow_add-result-2 c = omega (arith, few_shown c.args.log.now)

pub overflow_add-result-3 : goal.overflow_add-result-3
overflow_add-result-3 c = omega (arith, few_shown c.args.log.now)

pub returns : goal.returns
returns c explained =
    rw (c.count.ensures, c.count-2.ensures, c.count-3.ensures)
    (pieces_counted explained c.args.log.now)
