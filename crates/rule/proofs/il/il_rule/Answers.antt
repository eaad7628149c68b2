-- `rule::il::il_rule` meets its contract: each call's answer is its rule.
-- Assumes nothing.
use mathlib.Core.Path.{◌∙◌}
use Rattle.bits.proofs.Sets.{in_list}
use Rattle.rule.specs.Il.{il_always}
use Rattle.rule.proofs.il.il_rule.Goals as goal

pub returns : goal.returns
returns c =
    let always = c.bit.ensures ∙ in_list _ tt il_always tt tt c.args.class in
    rw (c.from_aarch64.ensures, c.il_needed.ensures, always)
