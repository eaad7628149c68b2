-- `short_rule::code::editions` meets its contract: the masks of the rules of the edition are kept where the other rules hold.
-- Assumes nothing.
use mathlib.Core.Path.{◌≡◌, ◌∙◌, sym, ap, ap₂}
use mathlib.Core.Bool.{Bool, cond, ◌&&◌}
use Rattle.bits.specs.Layout.{fitting}
use Rattle.short_rule.specs.Edition.{mask_of}
use Rattle.short_record.specs.Class.{head_of}
use Rattle.short_layout.specs.Fields.{fields_of}
use Rattle.record.specs.declared.kinds.Head.{Head}
use Rattle.short_record.specs.declared.kinds.Record.{Record}
use Rattle.short_rule.specs.Il.{il_rule}
use Rattle.short_rule.specs.Rule.{layout_rule}
use Rattle.short_rule.specs.Code.{edition_rule}
use Rattle.short_rule.specs.Has.{lawful, has, editions_of}
use Rattle.short_rule.proofs.Masks.{edition_mask}
use Rattle.short_rule.proofs.code.editions.Goals as goal

-- the masks of the rules of the edition, kept where the other rules hold
kept : (r : Record) (h : Head) {long allowed holds : Bool} → h ≡ head_of r → long ≡ il_rule h.class h.isv h.il
    → allowed ≡ (fitting (fields_of r) && layout_rule r) → (h.own && long && allowed) ≡ holds
    → cond holds (mask_of (λ e. edition_rule e r)) 0 ≡ editions_of r
unfolding has lawful
kept r h same l a decided =
    ap (λ (b : Bool). cond b (mask_of (λ e. edition_rule e r)) 0)
    (sym decided ∙ ap₂ ◌&&◌ (ap₂ ◌&&◌ (ap (λ (x : Head). x.own) same) (l ∙ ap (λ (x : Head). il_rule x.class x.isv x.il) same)) a)
    ∙ edition_mask (lawful r) (λ e. edition_rule e r)

pub returns-then-h-il_rule : goal.returns-then-h-il_rule
returns-then-h-il_rule c =
    let at = c in
    let il = at in
    c.edition_rule.ensures
    ∙ kept il.args.r il.head-h.result il.head-h.ensures il.il_rule.ensures
    at.layout_rule.ensures c.if-h-il_rule.true

pub returns-else-h-il_rule : goal.returns-else-h-il_rule
returns-else-h-il_rule c =
    let at = c in
    let il = at in
    kept il.args.r il.head-h.result il.head-h.ensures il.il_rule.ensures
    at.layout_rule.ensures c.if-h-il_rule.false
