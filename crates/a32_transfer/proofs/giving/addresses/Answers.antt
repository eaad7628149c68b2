-- `a32_transfer::giving::addresses` meets its contract: one address more stands in its place.
-- Assumes nothing.
use Rattle.std.proofs.Common.{arith}
use Rattle.a32_transfer.specs.Giving.{address_at}
use Rattle.a32_transfer.proofs.Firsts.{one_more}
use Rattle.a32_transfer.proofs.giving.addresses.Goals as goal

pub loop-i-preserved : goal.loop-i-preserved
loop-i-preserved c =
    let l = c.loop-i in
    record { next = omega arith; held = one_more (address_at c.args.first) 16 l.i l.invariant.held l.invariant.next }
