-- The fault registers after an injection or its refusal, and the definition of an injection.
use mathlib.Core.Path.{◌≡◌, ap}
use Rattle.std.specs.Prelude.{Result, Ok, Err}
use Rattle.bits.proofs.Arms.{absurd_answer}
use Rattle.exception.specs.declared.state.FaultRegisters.{FaultRegisters}
use Rattle.exception.specs.declared.state.Guest.{Guest}
use Rattle.exception.specs.Entry.{entered}
use Rattle.guest.specs.declared.answer.InjectionRefusal.{InjectionRefusal}
use Rattle.guest.specs.declared.answer.InjectionRefusal.TheVariants.{UnsoundStatus, UnalignedVbar, UnwritableFault, WideAddress}
use Rattle.guest.specs.declared.answer.InjectionRefusal.TheVariants.{WideDomain}
use Rattle.guest.specs.declared.injection.Injection.{Injection}
use Rattle.guest.specs.declared.injector.Injected.{Injected}
use Rattle.guest.specs.Injection.{injection_row}
use Rattle.guest.specs.Inject.{faults_after, guest_after, injection_answer, resulting, injected}
use Rattle.guest.specs.Inner.{with_faults, judged}
use Rattle.guest.specs.Promise.{Injecting}
use Rattle.guest.proofs.Answers.{promised}

abbrev made : Result Unit InjectionRefusal → Guest → Guest → Injected
made a s after = record { answer = a; state = resulting a s after }

-- ---- the answer and the state of each

accepted_as : (a : Result Unit InjectionRefusal) (s : Guest) (i : Injection) (faults : FaultRegisters) {f : FaultRegisters}
    → Ok f ≡ with_faults faults a
    → record { answer = Ok tt; state = entered s (injection_row i) f } ≡ made a s (entered s (injection_row i) faults)
accepted_as (Ok u) s i faults {f} e =
    let q : f ≡ faults = cc e in ap (λ (x : FaultRegisters). record { answer = Ok tt; state = entered s (injection_row i) x }) q
accepted_as (Err r) s i faults e = absurd_answer (cc e)

refused_as : (a : Result Unit InjectionRefusal) (s after : Guest) (faults : FaultRegisters) {r : InjectionRefusal}
    → Err r ≡ with_faults faults a → record { answer = Err r; state = s } ≡ made a s after
refused_as (Ok u) s after faults e = absurd_answer (cc e)
refused_as (Err UnsoundStatus) s after faults e = cc
refused_as (Err UnalignedVbar) s after faults e = cc
refused_as (Err UnwritableFault) s after faults e = cc
refused_as (Err WideAddress) s after faults e = cc
refused_as (Err WideDomain) s after faults e = cc

pub took : (s : Guest) (i : Injection) (f : FaultRegisters) → Ok f ≡ judged s i
    → Injecting s i record { answer = Ok tt; state = entered s (injection_row i) f }
unfolding injected
took s i f e = promised s i (accepted_as (injection_answer s i) s i (faults_after i s.faults s.ttbcr) e)

pub refused : (s : Guest) (i : Injection) (r : InjectionRefusal) → Err r ≡ judged s i
    → Injecting s i record { answer = Err r; state = s }
unfolding injected
refused s i r e = promised s i (refused_as (injection_answer s i) s (guest_after s i) (faults_after i s.faults s.ttbcr) e)
