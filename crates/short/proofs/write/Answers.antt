-- `short::write` meets its contract: the tests that led to each answer are those of `write_of`, in its order.
-- Assumes nothing.
use mathlib.Core.Path.{◌≡◌, ◌∙◌, sym, ap, subst}
use mathlib.Core.Bool.{Bool, true}
use Prim.Native.Nat.{ℕ, ◌^◌, ◌<◌}
use borrow.Author.Tests.{not-true, not-false}
use Rattle.std.proofs.lemmas.Result.{err_from_is_err_and}
use Rattle.std.specs.Prelude.{Result, Ok}
use Rattle.bits.specs.Inner.{joined_from}
use Rattle.short_rule.specs.Edition.{is_edition}
use Rattle.edition.specs.Judge.{judge_of}
use Rattle.edition.specs.declared.Refusal.{Refusal}
use Rattle.short_record.specs.Class.{head_of}
use Rattle.short_layout.specs.Fields.{fields_of, record_word}
use Rattle.record.specs.declared.kinds.Head.{Head}
use Rattle.short_record.specs.declared.kinds.Record.{Record}
use Rattle.short_rule.specs.Il.{il_rule}
use Rattle.short_rule.specs.Has.{record_il, editions_of}
use Rattle.short.specs.Writing.{write_of}
use Rattle.short.proofs.Steps.{write_verdict, write_unknown, write_class, write_short, write_judged, joined_taken, joined_below}
use Rattle.short.proofs.Promises.{writes}
use Rattle.short.proofs.write.Goals as goal

-- a record's head, as the code has it
own-class : {h : Head} (r : Record) {b : Bool} → h ≡ head_of r → h.own ≡ b → (head_of r).own ≡ b
own-class r same o = sym (ap (λ (x : Head). x.own) same) ∙ o

own-il : {h : Head} (r : Record) {long b : Bool} → h ≡ head_of r → long ≡ il_rule h.class h.isv h.il → long ≡ b → record_il r ≡ b
own-il r same l b = sym (l ∙ ap (λ (x : Head). il_rule x.class x.isv x.il) same) ∙ b

module _ (e : ℕ) (r : Record) (k : is_edition e ≡ true) (o : (head_of r).own ≡ true) (l : record_il r ≡ true) where
  -- what the code makes of a verdict that it came to
  judged : {m : ℕ} {came verdict : Result Unit Refusal} → m ≡ editions_of r → came ≡ judge_of e m → came ≡ verdict
      → write_verdict (record_word r) verdict ≡ write_of e r
  judged mask judge same = sym (write_judged e r k o l ∙ ap (write_verdict (record_word r)) (ap (judge_of e) (sym mask) ∙ sym judge ∙ same))

  joined : {w m : ℕ} {came : Result Unit Refusal} → w ≡ joined_from 0 (fields_of r) → m ≡ editions_of r → came ≡ judge_of e m → came ≡ Ok (tt {0})
      → Ok (record { 0 = w }) ≡ write_of e r
  joined made mask judge same =
      ap (λ (w : ℕ). Ok (record { 0 = w })) (made ∙ joined_taken e r k (ap (judge_of e) (sym mask) ∙ sym judge ∙ same))
      ∙ judged mask judge same

-- the word that is put together has 32 bits
below : (e : ℕ) (r : Record) → is_edition e ≡ true → {w m : ℕ} {came : Result Unit Refusal} → w ≡ joined_from 0 (fields_of r) → m ≡ editions_of r
    → came ≡ judge_of e m
    → came ≡ Ok (tt {0}) → w < 2 ^ 32
below e r k made mask judge same =
    subst (λ (w : ℕ). w < 2 ^ 32) (sym made) (joined_below e r k (ap (judge_of e) (sym mask) ∙ sym judge ∙ same))

pub returns-then-not-known : goal.returns-then-not-known
returns-then-not-known c =
    let a = c.args in
    writes a.edition a.r (sym (write_unknown a.edition a.r (sym c.known.ensures ∙ c.if-not-known.true)))

pub returns-then-not-h : goal.returns-then-not-h
returns-then-not-h c =
    let a = c.args in
    writes a.edition a.r
    (sym (write_class a.edition a.r (sym c.known.ensures ∙ c.if-not-known.false)
    (own-class a.r c.head-h.ensures (not-true _ c.if-not-h.true))))

pub returns-then-not-il_rule : goal.returns-then-not-il_rule
returns-then-not-il_rule c =
    let a = c.args in
    writes a.edition a.r
    (sym (write_short a.edition a.r (sym c.known.ensures ∙ c.if-not-known.false)
    (own-class a.r c.head-h.ensures (not-false _ c.if-not-h.false))
    (own-il a.r c.head-h.ensures c.il_rule.ensures c.if-not-il_rule.true)))

pub overflow_cast-result : goal.overflow_cast-result
overflow_cast-result c =
    let a = c.args in
    record {
      fits = below a.edition a.r (sym c.known.ensures ∙ c.if-not-known.false) c.joined.ensures c.editions.ensures c.judge.ensures
          c.in_ok-judge.was;
    }

pub returns : goal.returns
returns c =
    let a = c.args in
    writes a.edition a.r
    (joined a.edition a.r (sym c.known.ensures ∙ c.if-not-known.false)
    (own-class a.r c.head-h.ensures (not-false _ c.if-not-h.false))
    (own-il a.r c.head-h.ensures c.il_rule.ensures c.if-not-il_rule.false) c.joined.ensures c.editions.ensures c.judge.ensures
    c.in_ok-judge.was)

pub returns-in_err-judge : goal.returns-in_err-judge
returns-in_err-judge c =
    let p = err_from_is_err_and c.from_residual.result c.from_residual.ensures.1 in
    let a = c.args in
    rw (p.1, p.2)
    (writes a.edition a.r
    (judged a.edition a.r (sym c.known.ensures ∙ c.if-not-known.false)
    (own-class a.r c.head-h.ensures (not-false _ c.if-not-h.false))
    (own-il a.r c.head-h.ensures c.il_rule.ensures c.if-not-il_rule.false) c.editions.ensures c.judge.ensures c.in_err-judge.was))
