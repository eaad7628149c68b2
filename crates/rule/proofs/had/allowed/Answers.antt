-- `rule::had::allowed` meets its contract: the masks of the rules of the edition are kept where the other rules of the fields hold.
-- Assumes nothing.
use mathlib.Core.Path.{◌≡◌, ◌∙◌, sym, ap}
use mathlib.Core.Bool.{Bool, cond}
use Rattle.edition.specs.Mask.{mask_of}
use Rattle.record.specs.declared.origin.Origin.{Origin}
use Rattle.record.specs.declared.kinds.Record.{Record}
use Rattle.rule.specs.Has.{edition_rule, field_rule, allowed_of}
use Rattle.rule.proofs.Masks.{field_mask}
use Rattle.rule.proofs.had.allowed.Goals as goal

kept : (o : Origin) (r : Record) {allowed holds : Bool} → allowed ≡ field_rule o r → allowed ≡ holds
    → cond holds (mask_of (λ e. edition_rule e r)) 0 ≡ allowed_of o r
kept o r a decided =
    ap (λ (b : Bool). cond b (mask_of (λ e. edition_rule e r)) 0) (sym decided ∙ a) ∙ field_mask (field_rule o r) (λ e. edition_rule e r)

pub returns-else-layout_rule : goal.returns-else-layout_rule
returns-else-layout_rule c = kept c.args.origin c.args.r c.layout_rule.ensures c.if-layout_rule.false
