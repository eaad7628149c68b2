-- An injection (01, 'Guest state and the five injections'): its answer, and the whole state after it.
use Rattle.std.specs.Prelude.{ℕ, cond, eqb, Result, Ok}
use Rattle.bits.specs.Decide.{decide}
use Rattle.fault.specs.Fault.{ifsr_word, dfsr_word, code_in}
use Rattle.exception.specs.declared.state.FaultRegisters.{FaultRegisters}
use Rattle.exception.specs.declared.state.Guest.{Guest}
use Rattle.guest.specs.declared.answer.InjectionRefusal.{InjectionRefusal}
use Rattle.guest.specs.declared.injection.Injection.{Injection}
use Rattle.guest.specs.declared.injection.Injection.TheVariants.{UndefinedAt, UndefinedAfter, SupervisorCall, PrefetchAbort}
use Rattle.guest.specs.declared.injection.Injection.TheVariants.{DataAbort}
use Rattle.guest.specs.declared.injector.Injected.{Injected}
use Rattle.guest.specs.Answer.{answer_number}
use Rattle.guest.specs.Injection.{injection_row}
use Rattle.exception.specs.Entry.{entered}
use Rattle.guest.specs.Tests.{injection_tests}

-- a prefetch abort writes IFSR and IFAR, a data abort DFSR and DFAR
abbrev pub fetch_writes : FaultRegisters → ℕ → ℕ → FaultRegisters
fetch_writes old status address = record { dfsr = old.dfsr; ifsr = status; dfar = old.dfar; ifar = address }

abbrev pub access_writes : FaultRegisters → ℕ → ℕ → FaultRegisters
access_writes old status address = record { dfsr = status; ifsr = old.ifsr; dfar = address; ifar = old.ifar }

-- the fault registers after an injection that is taken
abbrev pub faults_after : Injection → FaultRegisters → ℕ → FaultRegisters
faults_after UndefinedAt old ttbcr = old
faults_after UndefinedAfter old ttbcr = old
faults_after SupervisorCall old ttbcr = old
faults_after (PrefetchAbort f) old ttbcr = fetch_writes old (code_in (ifsr_word f.fault ttbcr)) f.address
faults_after (DataAbort a) old ttbcr = access_writes old (code_in (dfsr_word a.fault a.write a.domain ttbcr)) a.address

-- the state after an injection that is taken
abbrev pub guest_after : Guest → Injection → Guest
guest_after s i = entered s (injection_row i) (faults_after i s.faults s.ttbcr)

-- the first test that fails gives the answer
unfoldable pub injection_answer : Guest → Injection → Result Unit InjectionRefusal
injection_answer s i = decide (injection_tests s i) (Ok tt)

-- an answer 0 comes with the new state, and a refusal gives back the state as it came
abbrev pub resulting : Result Unit InjectionRefusal → Guest → Guest → Guest
resulting a s after = cond (eqb (answer_number a) 0) after s

unfoldable pub injected : Guest → Injection → Injected
injected s i = record { answer = injection_answer s i; state = resulting (injection_answer s i) s (guest_after s i) }
