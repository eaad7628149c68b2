-- 01's injection as it stood before request C-15, for states that have none of its features: test 9 and the new status word were the base's
-- (status, specs/Base.antt). Test 20 and the domain of C-21 stand in it as they do now: the law `unmarked_injected` (proofs/Unmarked.antt)
-- says that where nothing is marked, what holds now is what holds without C-15.
use Rattle.std.specs.Prelude.{List, [], ◌∷◌, Result, Ok, Err}
use Rattle.bits.specs.Decide.{Test, needs, decide}
use Rattle.status.specs.Base.{base_sound, base_entry_status}
use Rattle.exception.specs.declared.state.Guest.{Guest}
use Rattle.exception.specs.Vector.{aligned}
use Rattle.exception.specs.Entry.{entered_with}
use Rattle.guest.specs.declared.answer.InjectionRefusal.{InjectionRefusal}
use Rattle.guest.specs.declared.answer.InjectionRefusal.TheVariants.{UnsoundStatus, UnalignedVbar, UnwritableFault, WideAddress}
use Rattle.guest.specs.declared.answer.InjectionRefusal.TheVariants.{WideDomain}
use Rattle.guest.specs.declared.injection.Injection.{Injection}
use Rattle.guest.specs.declared.injector.Injected.{Injected}
use Rattle.guest.specs.Injection.{injection_row}
use Rattle.guest.specs.Tests.{writable, domain_fits, address_fits}
use Rattle.guest.specs.Inject.{faults_after, resulting}

abbrev pub base_tests : Guest → Injection → List (Test (Result Unit InjectionRefusal))
base_tests s i =
    needs (base_sound s.status) (Err UnsoundStatus)
    ∷ needs (aligned s.vbar) (Err UnalignedVbar)
    ∷ needs (writable i s.ttbcr) (Err UnwritableFault)
    ∷ needs (domain_fits i) (Err WideDomain)
    ∷ needs (address_fits i) (Err WideAddress)
    ∷ []

abbrev pub base_answer : Guest → Injection → Result Unit InjectionRefusal
base_answer s i = decide (base_tests s i) (Ok tt)

abbrev pub base_after : Guest → Injection → Guest
base_after s i =
    entered_with (base_entry_status (injection_row i).mode (injection_row i).a s.status s.sctlr) s (injection_row i)
    (faults_after i s.faults s.ttbcr)

unfoldable pub base_injected : Guest → Injection → Injected
base_injected s i = record { answer = base_answer s i; state = resulting (base_answer s i) s (base_after s i) }
