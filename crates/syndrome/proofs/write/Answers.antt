-- `syndrome::write` meets its contract: the tests that led to each answer are those of `write_of`, in its order.
-- Assumes nothing.
use mathlib.Core.Path.{◌≡◌, ◌∙◌, sym, ap, ap₂}
use mathlib.Core.Bool.{Bool, true, ◌&&◌}
use Prim.Native.Nat.{ℕ}
use borrow.Author.Tests.{not-false}
use Rattle.std.proofs.lemmas.Result.{err_from_is_err_and}
use Rattle.std.specs.Prelude.{Result, Ok}
use Rattle.bits.specs.Inner.{joined_from}
use Rattle.edition.specs.Feature.{is_edition}
use Rattle.edition.specs.Judge.{judge_of}
use Rattle.edition.specs.declared.Refusal.{Refusal}
use Rattle.record.specs.Class.{is_class, head_of}
use Rattle.layout.specs.Fields.{fields_of, record_word}
use Rattle.record.specs.declared.origin.Origin.{Origin}
use Rattle.record.specs.declared.kinds.Head.{Head}
use Rattle.record.specs.declared.kinds.Record.{Record}
use Rattle.rule.specs.Il.{il_rule}
use Rattle.rule.specs.Has.{record_class, record_il, allowed_of}
use Rattle.rule.proofs.Heads.{allowed_had}
use Rattle.syndrome.specs.Writing.{write_of}
use Rattle.syndrome.proofs.Steps.{write_verdict, write_judged, joined_taken}
use Rattle.syndrome.proofs.Promises.{writes}
use Rattle.syndrome.proofs.write.Goals as goal

-- a record's head, as the code has it
own-class : (o : Origin) {h : Head} (r : Record) {known b : Bool} → h ≡ head_of r → known ≡ is_class o h.class → (h.own && known) ≡ b
    → record_class o r ≡ b
own-class o r same k b =
    sym (ap₂ ◌&&◌ (ap (λ (x : Head). x.own) same) (k ∙ ap (λ (x : Head). is_class o x.class) same)) ∙ b

own-il : (o : Origin) {h : Head} (r : Record) {long b : Bool} → h ≡ head_of r → long ≡ il_rule o h.class h.isv h.il → long ≡ b
    → record_il o r ≡ b
own-il o r same l b = sym (l ∙ ap (λ (x : Head). il_rule o x.class x.isv x.il) same) ∙ b

module _ (o : Origin) (e : ℕ) (r : Record) (k : is_edition e ≡ true) (w : record_class o r ≡ true) (l : record_il o r ≡ true) where
  -- what the code makes of a verdict that it came to
  judged : {m : ℕ} {came verdict : Result Unit Refusal} → m ≡ allowed_of o r → came ≡ judge_of e m → came ≡ verdict
      → write_verdict (record_word r) verdict ≡ write_of o e r
  judged mask judge same =
      sym (write_judged o e r k w l
      ∙ ap (write_verdict (record_word r)) (ap (judge_of e) (sym (mask ∙ allowed_had o r w l)) ∙ sym judge ∙ same))

  joined : {w m : ℕ} {came : Result Unit Refusal} → w ≡ joined_from 0 (fields_of r) → m ≡ allowed_of o r → came ≡ judge_of e m
      → came ≡ Ok (tt {0})
      → Ok (record { 0 = w }) ≡ write_of o e r
  joined made mask judge same =
      ap (λ (w : ℕ). Ok (record { 0 = w }))
      (made ∙ joined_taken o e r k (ap (judge_of e) (sym (mask ∙ allowed_had o r w l)) ∙ sym judge ∙ same))
      ∙ judged mask judge same

pub returns : goal.returns
returns c =
    let at = c in
    let long = at in
    let own = long in
    let known = own in
    let head = known in
    let a = head.args in
    writes a.origin a.edition a.r
    (joined a.origin a.edition a.r (sym known.known.ensures ∙ not-false _ known.if-not-known.false-raw)
    (own-class a.origin a.r head.head-h.ensures own.is_class.ensures (not-false _ own.if-not-h-is_class.false-raw))
    (own-il a.origin a.r head.head-h.ensures long.il_rule.ensures (not-false _ long.if-not-il_rule.false-raw)) c.joined.ensures
    at.allowed.ensures
    at.judge.ensures c.in_ok-judge.was)

pub returns-in_err-judge : goal.returns-in_err-judge
returns-in_err-judge c =
    let p = err_from_is_err_and c.from_residual.result c.from_residual.ensures.1 in
    let at = c in
    let long = at in
    let own = long in
    let known = own in
    let head = known in
    let a = head.args in
    rw (p.1, p.2)
    (writes a.origin a.edition a.r
    (judged a.origin a.edition a.r (sym known.known.ensures ∙ not-false _ known.if-not-known.false-raw)
    (own-class a.origin a.r head.head-h.ensures own.is_class.ensures (not-false _ own.if-not-h-is_class.false-raw))
    (own-il a.origin a.r head.head-h.ensures long.il_rule.ensures (not-false _ long.if-not-il_rule.false-raw))
    at.allowed.ensures at.judge.ensures
    c.in_err-judge.was))
