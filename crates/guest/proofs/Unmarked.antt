-- Marks (02, C-15): an injection changes none, and a state with none behaves as before the request.
use Rattle.std.specs.Prelude.{Result, Ok, Err}
use mathlib.Core.Path.{◌≡◌, refl, ap, ap₂, ◌∙◌}
use mathlib.Core.Bool.{Bool, true, false, cond}
use mathlib.Core.List.{[], ◌∷◌}
use Prim.Native.Nat.{ℕ}
use lib.Dec.{eqb}
use Rattle.bits.specs.Decide.{needs, decide}
use Rattle.status.specs.declared.Marks.{Marks}
use Rattle.status.specs.Base.{unmarked}
use Rattle.status.specs.Sound.{sound}
use Rattle.status.specs.Entry.{entry_status}
use Rattle.status.proofs.Unmarked.{unmarked_sound, unmarked_entry}
use Rattle.exception.specs.declared.state.Guest.{Guest}
use Rattle.exception.specs.Vector.{aligned}
use Rattle.exception.specs.Entry.{entered_with, entered}
use Rattle.guest.specs.declared.answer.InjectionRefusal.{InjectionRefusal}
use Rattle.guest.specs.declared.answer.InjectionRefusal.TheVariants.{UnsoundStatus, UnalignedVbar, UnwritableFault, WideAddress}
use Rattle.guest.specs.declared.answer.InjectionRefusal.TheVariants.{WideDomain}
use Rattle.guest.specs.declared.injection.Injection.{Injection}
use Rattle.guest.specs.declared.injection.Injection.TheVariants.{UndefinedAt, UndefinedAfter, SupervisorCall, PrefetchAbort}
use Rattle.guest.specs.declared.injection.Injection.TheVariants.{DataAbort}
use Rattle.guest.specs.declared.injector.Injected.{Injected}
use Rattle.guest.specs.Answer.{answer_number}
use Rattle.guest.specs.Injection.{injection_row}
use Rattle.guest.specs.Tests.{writable, domain_fits, address_fits}
use Rattle.guest.specs.Inject.{faults_after, guest_after, injection_answer, resulting, injected}
use Rattle.guest.specs.Base.{base_injected}

-- the state that is given back has the marks that came, on a refusal too
pub marks_kept : (s : Guest) (i : Injection) → (injected s i).state.marks ≡ s.marks
unfolding injected entered
marks_kept s i = go (eqb (answer_number (injection_answer s i)) 0)
  where
    go : (b : Bool) → (cond b (guest_after s i) s).marks ≡ s.marks
    go true = refl
    go false = refl

-- F is kept by each of the five
pub f_kept : (i : Injection) → (injection_row i).f ≡ false
f_kept UndefinedAt = refl
f_kept UndefinedAfter = refl
f_kept SupervisorCall = refl
f_kept (PrefetchAbort f) = refl
f_kept (DataAbort a) = refl

module _ (s : Guest) (i : Injection) where
  -- an injection by what looks at the marks: whether 9 passes, and the new status word
  abbrev answer_by : Bool → Result Unit InjectionRefusal
  answer_by passes =
      decide
      (needs passes (Err UnsoundStatus)
      ∷ needs (aligned s.vbar) (Err UnalignedVbar)
      ∷ needs (writable i s.ttbcr) (Err UnwritableFault)
      ∷ needs (domain_fits i) (Err WideDomain)
      ∷ needs (address_fits i) (Err WideAddress)
      ∷ [])
      (Ok tt)

  abbrev injected_by : Bool → ℕ → Injected
  injected_by passes status =
      record {
        answer = answer_by passes;
        state = resulting (answer_by passes) s (entered_with status s (injection_row i) (faults_after i s.faults s.ttbcr));
      }

  -- A STATE WITH NO MARK behaves as before C-15: answer and whole state are the base's
  pub unmarked_injected : s.marks ≡ unmarked → injected s i ≡ base_injected s i
  unfolding injected injection_answer entered base_injected
  unmarked_injected e =
      ap₂ injected_by
      (ap (λ (m : Marks). sound m s.status) e ∙ unmarked_sound s.status)
      (ap₂ (λ (m : Marks) (f : Bool). entry_status m (injection_row i).mode (injection_row i).a f s.status s.sctlr) e (f_kept i)
      ∙ unmarked_entry (injection_row i).mode (injection_row i).a s.status s.sctlr)
