-- `syndrome::word_editions` meets its contract: where the record makes the word, the record's editions. Class and IL of the word are right,
-- and so those of the record. Assumes nothing.
use mathlib.Core.Path.{◌≡◌, ◌∙◌, sym, ap}
use mathlib.Core.Bool.{Bool, cond}
use Prim.Native.Nat.{ℕ}
use lib.Dec.{eqb}
use Rattle.edition.specs.Mask.{mask_of}
use Rattle.layout.specs.Fields.{record_word}
use Rattle.record.specs.declared.origin.Origin.{Origin}
use Rattle.record.specs.declared.kinds.Record.{Record}
use Rattle.rule.specs.Has.{has, editions_of}
use Rattle.rule.proofs.Heads.{allowed_at}
use Rattle.rule.proofs.Masks.{field_mask}
use Rattle.syndrome.specs.Inner.{makes}
use Rattle.syndrome.proofs.word_editions.Goals as goal

kept : (o : Origin) (r : Record) (w : ℕ) {whole holds : Bool} → whole ≡ eqb (record_word r) w → whole ≡ holds
    → cond holds (editions_of o r) 0 ≡ mask_of (λ e. makes o e r w)
kept o r w made decided =
    ap (λ (b : Bool). cond b (editions_of o r) 0) (sym decided ∙ made) ∙ field_mask (eqb (record_word r) w) (λ e. has o e r)

pub whole-requires : goal.whole-requires
whole-requires c = c.requires.0

pub returns-then-whole : goal.returns-then-whole
returns-then-whole c =
    let at = c in
    let a = at.args in
    let pre = at.requires in
    c.allowed.ensures ∙ allowed_at a.word a.origin pre.1 pre.2 a.r pre.0
    ∙ kept a.origin a.r a.word at.whole.ensures c.if-whole.true

pub returns-else-whole : goal.returns-else-whole
returns-else-whole c =
    let a = c.args in
    kept a.origin a.r a.word c.whole.ensures c.if-whole.false
