-- `short::read` meets its contract: the tests that led to each answer are those of `read_of`, in its order.
-- Assumes nothing.
use mathlib.Core.Path.{◌≡◌, ◌∙◌, sym, ap}
use mathlib.Core.Bool.{true}
use Prim.Native.Nat.{ℕ}
use Rattle.std.proofs.lemmas.Result.{err_from_is_err_and}
use Rattle.std.specs.Prelude.{Result}
use Rattle.edition.specs.declared.Refusal.{Refusal}
use Rattle.short_rule.specs.Edition.{is_edition, mask_of}
use Rattle.edition.specs.Judge.{judge_of}
use Rattle.form.proofs.Verdicts.{verdict_of}
use Rattle.short_record.specs.Class.{is_class}
use Rattle.short_record.specs.Split.{record_at}
use Rattle.registers.specs.declared.Hsr.{Hsr}
use Rattle.short_record.specs.declared.kinds.Record.{Record}
use Rattle.short.specs.Inner.{makes}
use Rattle.short.specs.Tests.{class_known, word_il}
use Rattle.short.specs.Reading.{read_of}
use Rattle.short.proofs.Steps.{read_unknown, read_class, read_short, read_judged}
use Rattle.short.proofs.Promises.{reads}
use Rattle.short.proofs.read.Goals as goal

-- what the code makes of a verdict that it came to
judged : (e : ℕ) (hsr : Hsr) → is_edition e ≡ true → class_known hsr.0 ≡ true → word_il hsr.0 ≡ true
    → {r : Record} {m : ℕ} {came verdict : Result Unit Refusal} → r ≡ record_at hsr.0 → m ≡ mask_of (λ x. makes x r hsr.0) → came ≡ judge_of e m
    → came ≡ verdict
    → verdict_of r verdict ≡ read_of e hsr
judged e hsr k c l {r} at mask judge same =
    sym (read_judged e hsr k c l
    ∙ ap (λ (s : Record). verdict_of s (judge_of e (mask_of (λ x. makes x s hsr.0)))) (sym at)
    ∙ ap (verdict_of r) (ap (judge_of e) (sym mask) ∙ sym judge ∙ same))

pub returns-then-not-known : goal.returns-then-not-known
returns-then-not-known c =
    let a = c.args in
    reads a.edition a.hsr (sym (read_unknown a.edition a.hsr (sym c.known.ensures ∙ c.if-not-known.true)))

pub returns-then-not-is_class : goal.returns-then-not-is_class
returns-then-not-is_class c =
    let a = c.args in
    let k = sym c.known.ensures ∙ c.if-not-known.false in
    reads a.edition a.hsr
    (sym (read_class a.edition a.hsr k (sym (c.is_class.ensures ∙ ap is_class c.field32.ensures)
    ∙ c.if-not-is_class.true)))

pub returns-then-not-word_il : goal.returns-then-not-word_il
returns-then-not-word_il c =
    let a = c.args in
    let k = sym c.known.ensures ∙ c.if-not-known.false in
    let b = sym (c.is_class.ensures ∙ ap is_class c.field32.ensures)
    ∙ c.if-not-is_class.false in
    reads a.edition a.hsr
    (sym (read_short a.edition a.hsr k b (sym c.word_il.ensures ∙ c.if-not-word_il.true)))

pub returns : goal.returns
returns c =
    let a = c.args in
    reads a.edition a.hsr
    (judged a.edition a.hsr (sym c.known.ensures ∙ c.if-not-known.false)
    (sym (c.is_class.ensures ∙ ap is_class c.field32.ensures) ∙ c.if-not-is_class.false)
    (sym c.word_il.ensures ∙ c.if-not-word_il.false) c.record_at-r.ensures
    c.word_editions.ensures
    c.judge.ensures c.in_ok-judge.was)

pub returns-in_err-judge : goal.returns-in_err-judge
returns-in_err-judge c =
    let p = err_from_is_err_and c.from_residual.result c.from_residual.ensures.1 in
    let a = c.args in
    rw (p.1, p.2)
    (reads a.edition a.hsr
    (judged a.edition a.hsr (sym c.known.ensures ∙ c.if-not-known.false)
    (sym (c.is_class.ensures ∙ ap is_class c.field32.ensures) ∙ c.if-not-is_class.false)
    (sym c.word_il.ensures ∙ c.if-not-word_il.false) c.record_at-r.ensures
    c.word_editions.ensures
    c.judge.ensures c.in_err-judge.was))
