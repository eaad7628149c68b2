-- Where each way leads: what the monitor does next and the guest's state, by the definitions of the calls that it makes.
use Rattle.std.specs.Prelude.{ℕ, ◌≡◌, ⊤, Result, Ok, Err}
use Rattle.record.specs.declared.kinds.Record.{Record}
use Rattle.exception.specs.declared.state.Guest.{Guest}
use Rattle.guest.specs.Inject.{injected}
use Rattle.guest.specs.declared.injection.Injection.{Injection}
use Rattle.a32_access.specs.declared.access.Access.{Access}
use Rattle.step.specs.declared.refusal.OnwardRefusal.{OnwardRefusal}
use Rattle.step.specs.Over.{stepped_over}
use Rattle.device.specs.Finish.{finished}
use Rattle.device.specs.declared.answer.Moved.{Moved}
use Rattle.device.specs.declared.answer.Moved.TheVariants.{Loaded, Stored}
use Rattle.a32.specs.Promise.{described_answer}
use Rattle.a32.specs.declared.instruction.InstructionRefusal.{InstructionRefusal}
use Rattle.example.specs.declared.Next.{Next}
use Rattle.example.specs.declared.Next.TheVariants.{Resume, Give, Perform}
use Rattle.example.specs.declared.refusals.Refusal.{Refusal}
use Rattle.example.specs.declared.Answered.{Answered}
use Rattle.example.specs.declared.way.Way.{Way}
use Rattle.example.specs.declared.way.Way.TheVariants.{Inject, Finish, Describe, StepOver, Leave}

-- the guest goes on after a call that leaves nothing to do, and a refusal is handed on
abbrev pub resumed_by : {E : Type 0} → (E → Refusal) → Result ⊤ E → Result Next Refusal
resumed_by refused (Ok done) = Ok Resume
resumed_by refused (Err refusal) = Err (refused refusal)

-- the same for any error, whose conversion to another gives what `gives` says
abbrev pub Resuming : {E R : Type 0} → (E → R → Type 0) → Result ⊤ E → Result Next R → Type 0
Resuming gives (Ok done) r = r ≡ Ok Resume
Resuming gives (Err refusal) r = (made : _) × gives refusal made × (r ≡ Err made)

-- a store that is finished gives the card its value
abbrev pub by_access : Result Moved OnwardRefusal → Result Next Refusal
by_access (Ok Loaded) = Ok Resume
by_access (Ok (Stored value)) = Ok (Give value)
by_access (Err refusal) = Err (Refusal.Onward refusal)

abbrev pub injecting : Guest → Injection → Answered
injecting s i = record { next = resumed_by Refusal.Injection (injected s i).answer; state = (injected s i).state }

abbrev pub finishing : Guest → Record → ℕ → Answered
finishing s r value = record { next = by_access (finished s r value).answer; state = (finished s r value).state }

abbrev pub stepping : Guest → Record → Answered
stepping s r = record { next = resumed_by Refusal.Onward (stepped_over s r).answer; state = (stepped_over s r).state }

-- an access that the instruction word describes is still to be made; where it describes none, the guest gets the abort
abbrev pub by_description : Guest → Injection → Result Access InstructionRefusal → Answered
by_description s abort (Ok access) = record { next = Ok (Perform access); state = s }
by_description s abort (Err refusal) = injecting s abort

abbrev pub describing : Guest → ℕ → Injection → Answered
describing s word abort = by_description s abort (described_answer s word)

abbrev pub gone : Guest → Record → ℕ → ℕ → Way → Answered
gone s r word value (Inject what) = injecting s what
gone s r word value Finish = finishing s r value
gone s r word value (Describe abort) = describing s word abort
gone s r word value StepOver = stepping s r
gone s r word value Leave = record { next = Ok Resume; state = s }
