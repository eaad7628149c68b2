use mathlib.Core.Path.{◌∙◌, sym}
use Rattle.log_section.proofs.Numbers.{number_four}
use Rattle.log_section.proofs.number.four.Goals as goal

pub returns : goal.returns
returns c = (c.joined.ensures.0 ∙ sym (number_four _ _ c.before.before.before.before.before.before.requires), c.joined.ensures.1)
