-- `syndrome::read` meets its contract: the tests that led to each answer are those of `read_of`, in its order.
-- Assumes nothing.
use mathlib.Core.Path.{◌≡◌, ◌∙◌, sym, ap}
use mathlib.Core.Bool.{true}
use Prim.Native.Nat.{ℕ}
use borrow.Author.Tests.{eq-eqb, ne_eqb, not-false}
use Rattle.std.proofs.lemmas.Result.{err_from_is_err_and}
use Rattle.std.specs.Prelude.{Result}
use Rattle.edition.specs.Feature.{is_edition}
use Rattle.edition.specs.Mask.{mask_of}
use Rattle.edition.specs.Judge.{judge_of}
use Rattle.edition.specs.declared.Refusal.{Refusal}
use Rattle.form.proofs.Verdicts.{verdict_of}
use Rattle.record.specs.Class.{is_class}
use Rattle.record.specs.Split.{record_at}
use Rattle.record.specs.declared.origin.Origin.{Origin}
use Rattle.registers.specs.declared.Esr.{Esr}
use Rattle.record.specs.declared.kinds.Record.{Record}
use Rattle.syndrome.specs.Inner.{makes}
use Rattle.syndrome.specs.Tests.{upper_clear, class_known, word_il}
use Rattle.syndrome.specs.Reading.{read_of}
use Rattle.syndrome.proofs.Steps.{read_upper, read_judged}
use Rattle.syndrome.proofs.Promises.{reads}
use Rattle.syndrome.proofs.read.Goals as goal

-- what the code makes of a verdict that it came to
judged : (o : Origin) (e : ℕ) (esr : Esr) → is_edition e ≡ true → upper_clear esr.0 ≡ true → class_known o esr.0 ≡ true
    → word_il o esr.0 ≡ true
    → {r : Record} {m : ℕ} {came verdict : Result Unit Refusal} → r ≡ record_at esr.0 → m ≡ mask_of (λ x. makes o x r esr.0)
    → came ≡ judge_of e m
    → came ≡ verdict
    → verdict_of r verdict ≡ read_of o e esr
judged o e esr k u c l {r} at mask judge same =
    sym (read_judged o e esr k u c l
    ∙ ap (λ (s : Record). verdict_of s (judge_of e (mask_of (λ x. makes o x s esr.0)))) (sym at)
    ∙ ap (verdict_of r) (ap (judge_of e) (sym mask) ∙ sym judge ∙ same))

pub returns-then-field-ne0 : goal.returns-then-field-ne0
returns-then-field-ne0 c =
    let known = c in
    let a = known.args in
    let k = sym known.known.ensures ∙ not-false _ known.if-not-known.false-raw in
    reads a.origin a.edition a.esr
    (sym (read_upper a.origin a.edition a.esr k (ne_eqb _ _ (λ z. c.if-field-ne0.true (c.field.ensures ∙ z)))))

pub returns : goal.returns
returns c =
    let at = c in
    let long = at in
    let class = long in
    let clear = class in
    let known = clear in
    let a = known.args in
    reads a.origin a.edition a.esr
    (judged a.origin a.edition a.esr (sym known.known.ensures ∙ not-false _ known.if-not-known.false-raw)
    (eq-eqb _ _ (sym clear.field.ensures ∙ clear.if-field-ne0.false))
    (sym (class.is_class.ensures ∙ ap (is_class a.origin) class.field32.ensures)
    ∙ not-false _ class.if-not-is_class.false-raw)
    (sym long.word_il.ensures ∙ not-false _ long.if-not-word_il.false-raw) at.record_at-r.ensures
    at.word_editions.ensures
    at.judge.ensures c.in_ok-judge.was)

pub returns-in_err-judge : goal.returns-in_err-judge
returns-in_err-judge c =
    let p = err_from_is_err_and c.from_residual.result c.from_residual.ensures.1 in
    let at = c in
    let long = at in
    let class = long in
    let clear = class in
    let known = clear in
    let a = known.args in
    rw (p.1, p.2)
    (reads a.origin a.edition a.esr
    (judged a.origin a.edition a.esr (sym known.known.ensures ∙ not-false _ known.if-not-known.false-raw)
    (eq-eqb _ _ (sym clear.field.ensures ∙ clear.if-field-ne0.false))
    (sym (class.is_class.ensures ∙ ap (is_class a.origin) class.field32.ensures)
    ∙ not-false _ class.if-not-is_class.false-raw)
    (sym long.word_il.ensures ∙ not-false _ long.if-not-word_il.false-raw) at.record_at-r.ensures
    at.word_editions.ensures
    at.judge.ensures c.in_err-judge.was))
