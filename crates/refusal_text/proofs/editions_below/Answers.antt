use Rattle.std.proofs.Common.{◌≡◌, arith}
use Rattle.text.proofs.Appending.{extends_none}
use Rattle.refusal_text.specs.Refusal.{editions_below}
use Rattle.refusal_text.proofs.Asked.{editions_more}
use Rattle.refusal_text.proofs.editions_below.Goals as goal

pub loop-edition-init : goal.loop-edition-init
unfolding editions_below
loop-edition-init c = extends_none _

pub loop-edition-preserved : goal.loop-edition-preserved
loop-edition-preserved c = editions_more _ c.loop-edition.edition c.loop-edition.invariant c.edition_in.ensures

pub returns : goal.returns
returns c =
    let all : c.loop-edition.edition ≡ c.args.n = omega arith in
    rw all at c.loop-edition.invariant
