-- `trap::read_both` meets its contract: where both editions show the trap, it is the same.
-- Assumes nothing.
use mathlib.Core.Path.{◌≡◌, ◌∙◌, sym, ap, ap₂}
use Prim.Native.Nat.{ℕ}
use Rattle.std.specs.Prelude.{Result, Ok, Err}
use Rattle.std.proofs.lemmas.Result.{err_from_is_err_and}
use Rattle.trap_refusal.specs.declared.TrapRefusal.{TrapRefusal}
use Rattle.record.specs.declared.origin.Origin.{Origin}
use Rattle.registers.specs.declared.Esr.{Esr}
use Rattle.registers.specs.declared.Far.{Far}
use Rattle.registers.specs.declared.Hpfar.{Hpfar}
use Rattle.trap.specs.Answer.{answer_of}
use Rattle.trap.specs.Both.{both_from, both_of}
use Rattle.trap.specs.declared.Trap.{Trap}
use Rattle.trap.proofs.Promises.{shows_both}
use Rattle.trap.proofs.Shown.{same_trap}
use Rattle.trap.proofs.read_both.Goals as goal

both-shown : (o : Origin) (first second : ℕ) (esr : Esr) (far : Far) (hpfar : Hpfar) (t s : Trap)
    → answer_of o first esr far hpfar ≡ Ok t
    → answer_of o second esr far hpfar ≡ Ok s → Ok (t, s) ≡ both_of o first second esr far hpfar
unfolding both_of
both-shown o first second esr far hpfar t s one other =
    ap (λ (x : Trap). Ok (t, x)) (sym (same_trap o first second esr far hpfar t s one other)) ∙ sym (ap₂ both_from one other)

pub returns : goal.returns
returns c =
    let a = c.args in
    shows_both a.origin a.first a.second a.esr a.far a.hpfar
    (both-shown a.origin a.first a.second a.esr a.far a.hpfar _ _ (sym c.read.ensures.answer ∙ c.in_ok-trap.was)
    (sym c.read-2.ensures.answer ∙ c.in_ok-other.was))

pub returns-in_err-trap : goal.returns-in_err-trap
unfolding both_of
returns-in_err-trap c =
    let a = c.args in
    let first = sym c.read.ensures.answer ∙ c.in_err-trap.was in
    let p = err_from_is_err_and c.from_residual.result c.from_residual.ensures.1 in
    shows_both a.origin a.first a.second a.esr a.far a.hpfar
    (p.1 ∙ ap Err p.2 ∙ sym (ap (λ (x : Result Trap TrapRefusal). both_from x (answer_of a.origin a.second a.esr a.far a.hpfar)) first))

pub returns-in_err-other : goal.returns-in_err-other
unfolding both_of
returns-in_err-other c =
    let a = c.args in
    let first = sym c.read.ensures.answer ∙ c.in_ok-trap.was in
    let second = sym c.read-2.ensures.answer ∙ c.in_err-other.was in
    let p = err_from_is_err_and c.from_residual-in_err-other.result c.from_residual-in_err-other.ensures.1 in
    shows_both a.origin a.first a.second a.esr a.far a.hpfar (p.1 ∙ ap Err p.2 ∙ sym (ap₂ both_from first second))
