-- What one call for all actions promises: what the action's own call promises, with the answer among the others'; and each answer's number.
use Rattle.std.specs.Prelude.{◌≡◌, ℕ, ⊤}
use Rattle.exception.specs.declared.state.Guest.{Guest}
use Rattle.guest.specs.declared.injector.Injected.{Injected}
use Rattle.guest.specs.Answer as guest
use Rattle.guest.specs.Promise.{Injecting}
use Rattle.delivery.specs.declared.Delivered.{Delivered}
use Rattle.delivery.specs.Answer as delivery
use Rattle.delivery.specs.Promise.{Delivering}
use Rattle.resume.specs.declared.Resumed.{Resumed}
use Rattle.resume.specs.Answer as resume
use Rattle.resume.specs.Promise.{Returning}
use Rattle.step.specs.declared.over.Onward.{Onward}
use Rattle.step.specs.Over.{step_number}
use Rattle.step.specs.Promise.{StepPromise}
use Rattle.device.specs.declared.answer.Moved as device
use Rattle.device.specs.Answer.{access_number}
use Rattle.device.specs.Promise.{FinishPromise}
use Rattle.coprocessor.specs.declared.answer.Moved as coprocessor
use Rattle.coprocessor.specs.Answer.{transfer_number}
use Rattle.coprocessor.specs.Promise.{TransferPromise}
use Rattle.act.specs.declared.Action.{Action}
use Rattle.act.specs.declared.Outcome.{Outcome}
use Rattle.act.specs.declared.Acted.{Acted}

abbrev pub both : Outcome → Guest → Acted
both o s = record { outcome = o; state = s }

abbrev pub Acting : Guest → Action → Acted → Type 0
Acting s (Action.Inject i) r = (x : Injected) × Injecting s i x × (r ≡ both (Outcome.Injected x.answer) x.state)
Acting s (Action.Deliver q) r = (x : Delivered) × Delivering q s x × (r ≡ both (Outcome.Delivered x.outcome) x.state)
Acting s (Action.Resume c) r = (x : Resumed) × Returning s c x × (r ≡ both (Outcome.Resumed x.answer) x.state)
Acting s (Action.StepOver w) r = (x : Onward ⊤) × StepPromise s w x × (r ≡ both (Outcome.SteppedOver x.answer) x.state)
Acting s (Action.Finish w v) r = (x : Onward device.Moved) × FinishPromise s w v x × (r ≡ both (Outcome.Finished x.answer) x.state)
Acting s (Action.Coprocessor w a b) r =
    (x : Onward coprocessor.Moved) × TransferPromise s w a b x × (r ≡ both (Outcome.Coprocessor x.answer) x.state)

-- the number that the action's own call gives its answer
abbrev pub outcome_number : Outcome → ℕ
outcome_number (Outcome.Injected a) = guest.answer_number a
outcome_number (Outcome.Delivered o) = delivery.answer_number o.answer
outcome_number (Outcome.Resumed a) = resume.answer_number a
outcome_number (Outcome.SteppedOver a) = step_number a
outcome_number (Outcome.Finished a) = access_number a
outcome_number (Outcome.Coprocessor a) = transfer_number a
