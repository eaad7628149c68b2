-- Demand 1, of every action: A REFUSAL GIVES BACK THE VERY STATE.
use Rattle.std.specs.Prelude.{⊤}
use mathlib.Core.Path.{◌≡◌, ap, ◌∙◌}
use Rattle.exception.specs.declared.state.Guest.{Guest}
use Rattle.guest.specs.declared.injector.Injected.{Injected}
use Rattle.guest.specs.Answer as guest
use Rattle.guest.specs.Inject.{injected}
use Rattle.guest.proofs.Answers as injections
use Rattle.pending.specs.Reading.{list_of}
use Rattle.pending.specs.Step.{Step}
use Rattle.pending.specs.Step as plain
use Rattle.pending.proofs.Steps.{unmoved}
use Rattle.delivery.specs.Deliver.{guest_delivery}
use Rattle.delivery.proofs.Answers.{same_number}
use Rattle.resume.specs.declared.Resumed.{Resumed}
use Rattle.resume.specs.Answer as resume
use Rattle.resume.specs.Return.{returned}
use Rattle.resume.proofs.Answers as returns
use Rattle.step.specs.declared.over.Onward.{Onward}
use Rattle.step.specs.Over.{step_number}
use Rattle.step.proofs.Answers as steps
use Rattle.device.specs.declared.answer.Moved as device
use Rattle.device.specs.Answer.{access_number}
use Rattle.device.proofs.Answers as accesses
use Rattle.coprocessor.specs.declared.answer.Moved as coprocessor
use Rattle.coprocessor.specs.Answer.{transfer_number}
use Rattle.coprocessor.proofs.Answers as transfers
use Rattle.act.specs.declared.Action.{Action}
use Rattle.act.specs.declared.Acted.{Acted}
use Rattle.act.specs.Acting.{Acting, outcome_number}

abbrev state : Acted → Guest
state r = r.state

pub refused_untouched : (s : Guest) (a : Action) (r : Acted) → Acting s a r → (outcome_number r.outcome ≡ 0 → ⊥) → r.state ≡ s
unfolding injected returned
refused_untouched s (Action.Inject i) r p n =
    ap state p.2 ∙ ap (λ (x : Injected). x.state) p.1.answer
    ∙ injections.refused_untouched s i
    (λ e. n (ap (λ (x : Acted). outcome_number x.outcome) p.2 ∙ ap (λ (x : Injected). guest.answer_number x.answer) p.1.answer ∙ ap guest.answer_number e))
refused_untouched s (Action.Deliver q) r p n =
    ap state p.2 ∙ ap (λ (x : Step Guest). x.state) p.1.answer
    ∙ (unmoved guest_delivery (list_of q) s
    (λ k e. n (ap (λ (x : Acted). outcome_number x.outcome) p.2 ∙ same_number p.0.outcome.answer
    ∙ ap (λ (x : Step Guest). plain.answer_number x.answer) p.1.answer ∙ ap plain.answer_number e))).1
refused_untouched s (Action.Resume c) r p n =
    ap state p.2 ∙ ap (λ (x : Resumed). x.state) p.1.answer
    ∙ returns.refused_untouched s c
    (λ e. n (ap (λ (x : Acted). outcome_number x.outcome) p.2 ∙ ap (λ (x : Resumed). resume.answer_number x.answer) p.1.answer ∙ ap resume.answer_number e))
refused_untouched s (Action.StepOver w) r p n =
    ap state p.2 ∙ ap (λ (x : Onward ⊤). x.state) p.1.answer
    ∙ steps.refused_untouched s w
    (λ e. n (ap (λ (x : Acted). outcome_number x.outcome) p.2 ∙ ap (λ (x : Onward ⊤). step_number x.answer) p.1.answer ∙ e))
refused_untouched s (Action.Finish w v) r p n =
    ap state p.2 ∙ ap (λ (x : Onward device.Moved). x.state) p.1.answer
    ∙ accesses.refused_untouched s w v
    (λ e. n (ap (λ (x : Acted). outcome_number x.outcome) p.2 ∙ ap (λ (x : Onward device.Moved). access_number x.answer) p.1.answer ∙ e))
refused_untouched s (Action.Coprocessor w a b) r p n =
    ap state p.2 ∙ ap (λ (x : Onward coprocessor.Moved). x.state) p.1.answer
    ∙ transfers.refused_untouched s w a b
    (λ e. n (ap (λ (x : Acted). outcome_number x.outcome) p.2 ∙ ap (λ (x : Onward coprocessor.Moved). transfer_number x.answer) p.1.answer ∙ e))
