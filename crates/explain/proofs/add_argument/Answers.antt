-- `explain::add_argument` meets its contract: the argument, and before it a space or nothing.
-- Assumes nothing.
use Rattle.explain.specs.Arguments.{Lengthened}
use Rattle.explain.proofs.Lengthening.{unchanged, lengthened_both}
use Rattle.explain.proofs.add_argument.Goals as goal
use Rattle.explain.proofs.add_argument.Goals.{then-i-ne1, else-i-ne1}

pub returns : goal.returns
returns g c =
    let space : Lengthened c.args.line.now c.if-i-ne1.line = elim c.if-i-ne1.branch [
      | then-i-ne1 w ↦ rw w.line-is (record { bytes = _; appended = w.append.ensures })
      | else-i-ne1 w ↦ rw w.line-is (unchanged c.args.line.now)
    ] in
    lengthened_both space (record { bytes = _; appended = c.append-2.ensures })
