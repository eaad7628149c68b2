-- `a32_transfer::giving::given` meets its contract: what one register more gives stands in its place.
-- Assumes nothing.
use Rattle.std.proofs.Common.{ap, ◌∙◌}
use Rattle.data.specs.Data.{transferred}
use Rattle.a32_transfer.specs.Giving.{given_at}
use Rattle.a32_transfer.proofs.Firsts.{one_more}
use Rattle.a32_transfer.proofs.giving.given.Goals as goal

pub loop-i-preserved : goal.loop-i-preserved
loop-i-preserved c =
    let a = c.args in
    let b = a.bank.now in
    one_more (given_at b.regs b.pc b.mode a.big a.sas a.numbers) 16 c.loop-i.i c.loop-i.invariant
    (c.transferred.ensures ∙ ap (transferred a.sas a.big) c.value_of.ensures)
