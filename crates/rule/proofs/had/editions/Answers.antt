-- `rule::had::editions` meets its contract: the editions that allow the fields are kept where class and IL are right.
-- Assumes nothing.
use mathlib.Core.Path.{◌≡◌, ◌∙◌, sym, ap, ap₂}
use mathlib.Core.Bool.{Bool, cond, ◌&&◌}
use Rattle.record.specs.Class.{is_class, head_of}
use Rattle.record.specs.declared.origin.Origin.{Origin}
use Rattle.record.specs.declared.kinds.Head.{Head}
use Rattle.record.specs.declared.kinds.Record.{Record}
use Rattle.rule.specs.Il.{il_rule}
use Rattle.rule.specs.Has.{edition_rule, field_rule, lawful, record_class, record_il, has, editions_of, allowed_of}
use Rattle.rule.proofs.Masks.{head_mask}
use Rattle.rule.proofs.had.editions.Goals as goal

kept : (o : Origin) (r : Record) (h : Head) {known long holds : Bool} → h ≡ head_of r → known ≡ is_class o h.class
    → long ≡ il_rule o h.class h.isv h.il → (h.own && known && long) ≡ holds → cond holds (allowed_of o r) 0 ≡ editions_of o r
unfolding has lawful
kept o r h same k l decided =
    ap (λ (b : Bool). cond b (allowed_of o r) 0)
    (sym decided
    ∙ ap₂ ◌&&◌ (ap₂ ◌&&◌ (ap (λ (x : Head). x.own) same) (k ∙ ap (λ (x : Head). is_class o x.class) same))
    (l ∙ ap (λ (x : Head). il_rule o x.class x.isv x.il) same))
    ∙ head_mask (record_class o r && record_il o r) (field_rule o r) (λ e. edition_rule e r)

pub returns-then-h-is_class : goal.returns-then-h-is_class
returns-then-h-is_class c =
    let il = c in
    let class = il in
    let head = class in
    let a = head.args in
    c.allowed.ensures
    ∙ kept a.origin a.r head.head-h.result head.head-h.ensures class.is_class.ensures il.il_rule.ensures
    c.if-h-is_class.true

pub returns-else-h-is_class : goal.returns-else-h-is_class
returns-else-h-is_class c =
    let il = c in
    let class = il in
    let head = class in
    let a = head.args in
    kept a.origin a.r head.head-h.result head.head-h.ensures class.is_class.ensures il.il_rule.ensures c.if-h-is_class.false
