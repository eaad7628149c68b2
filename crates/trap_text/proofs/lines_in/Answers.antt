use Rattle.std.proofs.Common.{◌≡◌, arith}
use Rattle.text.proofs.Appending.{extends_none}
use Rattle.trap_text.specs.Shown.{lines_below}
use Rattle.trap_text.proofs.Lines.{lines_more}
use Rattle.trap_text.proofs.lines_in.Goals as goal

pub loop-e-init : goal.loop-e-init
unfolding lines_below
loop-e-init c = extends_none _

pub loop-e-preserved : goal.loop-e-preserved
loop-e-preserved c = lines_more _ _ c.loop-e.e c.loop-e.invariant c.line_in.ensures

pub returns : goal.returns
returns c =
    let all : c.loop-e.e ≡ 16 = omega arith in
    rw all at c.loop-e.invariant
