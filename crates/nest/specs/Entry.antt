-- What enters a mode: the five injections of document 01 and the deliveries of request C-19, as exceptions of a nest (02, C-22).
use Rattle.std.specs.Prelude.{◌≡◌, List, [], ◌∷◌, ℕ, Ok}
use Rattle.signed.specs.declared.Signed.{Signed}
use Rattle.exception.specs.declared.state.Guest.{Guest}
use Rattle.guest.specs.declared.injection.Injection.{Injection}
use Rattle.guest.specs.declared.injection.Injection.TheVariants.{UndefinedAt, UndefinedAfter, SupervisorCall, PrefetchAbort, DataAbort}
use Rattle.guest.specs.Injection.{injection_row}
use Rattle.guest.specs.Injection as injection
use Rattle.guest.specs.Inject.{injection_answer, injected}
use Rattle.guest.specs.Inject as injection_faults
use Rattle.pending.specs.declared.Kind.{Kind}
use Rattle.pending.specs.Step.{delivered, step_of}
use Rattle.delivery.specs.Row.{delivery_row}
use Rattle.delivery.specs.Row as delivery
use Rattle.delivery.specs.Deliver.{guest_delivery}
use Rattle.delivery.specs.Deliver as delivery_faults
use Rattle.resume.specs.Nest.{Exception}

-- an injection; or a delivery step that finds these waiting, the oldest first, and delivers this kind
pub data Entry : Type 0 where
  injecting : Injection → Entry
  delivering : List Kind → Kind → Entry

-- the fault registers that each writes, by their places: DFSR 0, IFSR 1, DFAR 2, IFAR 3
abbrev pub injection_writes : Injection → List ℕ
injection_writes UndefinedAt = []
injection_writes UndefinedAfter = []
injection_writes SupervisorCall = []
injection_writes (PrefetchAbort f) = 1 ∷ 3 ∷ []
injection_writes (DataAbort a) = 0 ∷ 2 ∷ []

abbrev pub delivery_writes : Kind → List ℕ
delivery_writes Kind.Abort = 0 ∷ []
delivery_writes Kind.Fiq = []
delivery_writes Kind.Irq = []

-- its row, the fault registers that it leaves, and which of them it writes
abbrev pub exception_of : Entry → Exception
exception_of (injecting i) =
    record { row = injection_row i; leaves = λ s. injection_faults.faults_after i s.faults s.ttbcr; writes = injection_writes i }
exception_of (delivering l k) =
    record { row = delivery_row k; leaves = λ s. delivery_faults.faults_after k s.faults s.ttbcr; writes = delivery_writes k }

-- it is taken in a state: the injection answers 0, or the step names the kind
abbrev pub TakenIn : Guest → Entry → Type 0
TakenIn s (injecting i) = injection_answer s i ≡ Ok tt
TakenIn s (delivering l k) = (step_of guest_delivery l s).answer ≡ delivered k

-- the state that the call leaves
abbrev pub after : Guest → Entry → Guest
after s (injecting i) = (injected s i).state
after s (delivering l k) = (step_of guest_delivery l s).state

-- "that injection's correction", as `guest::correction` and `delivery::correction` tell it
abbrev pub correction_of : Guest → Entry → Signed
correction_of s (injecting i) = injection.correction_of s i
correction_of s (delivering l k) = delivery.correction_of s k
