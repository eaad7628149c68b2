use mathlib.Core.Path.{◌≡◌}
use Prim.Native.Nat.{◌+◌, ◌-◌}
use native.Mathlib.Omega.{arith}
use Rattle.text.proofs.Appending.{extends_both, extends_none}
use Rattle.field_text.proofs.Steps.{next_row}
use Rattle.field_text.proofs.rows_lines.Goals as goal

pub loop-i-init : goal.loop-i-init
loop-i-init c =
    let whole : c.args.first + c.args.n - c.args.first ≡ c.args.n = omega arith in
    λ all a. rw whole at a

pub row_line-requires : goal.row_line-requires
row_line-requires c = omega arith

pub loop-i-preserved : goal.loop-i-preserved
loop-i-preserved c =
    let l = c.loop-i in
    let s = c.args in
    λ all a. l.invariant all (rw (next_row s.word l.i (s.first + s.n) (omega arith)) (extends_both c.row_line.ensures a))

pub returns : goal.returns
returns c =
    let none : c.args.first + c.args.n - c.loop-i.i ≡ 0 = omega arith in
    c.loop-i.invariant _ (rw none (extends_none _))
