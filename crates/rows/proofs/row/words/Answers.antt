use borrow.Author.Rules.{rules}
use mathlib.Core.Path.{◌≡◌, refl, ap, ◌∙◌}
use native.Mathlib.Omega.{arith}
use lib.ListN.{length-replicate}
use Rattle.rows.proofs.Filling.{filled, one_more, whole}
use Rattle.rows.proofs.row.words.Goals as goal

pub loop-i-init : goal.loop-i-init
loop-i-init g c = (length-replicate g.row.N 0, refl)

pub loop-i-preserved : goal.loop-i-preserved
loop-i-preserved g c = (
  search rules,
  one_more c.args.row c.args.from g.row.N c.loop-i.i c.word.result c.loop-i-test.true c.loop-i.invariant.1 c.word.ensures,
)

pub returns : goal.returns
returns g c =
    let end : c.loop-i.i ≡ g.row.N = omega arith in
    c.loop-i.invariant.1 ∙ ap (filled c.args.row c.args.from g.row.N) end ∙ whole c.args.row c.args.from g.row.N
