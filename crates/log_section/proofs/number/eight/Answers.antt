use mathlib.Core.Path.{sym}
use Rattle.log_section.proofs.Numbers.{number_eight}
use Rattle.log_section.proofs.number.eight.Goals as goal

pub returns : goal.returns
returns c =
    let a = c.before.before.before.args in
    rw (c.before.four.ensures.0, c.four-2.ensures.0) (sym (number_eight a.bytes.now a.at c.before.before.before.requires))
