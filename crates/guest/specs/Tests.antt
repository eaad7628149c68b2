-- The tests of an injection (01, 'Numbers a call may answer': "Injecting tests 9, 10, 11, 12"; 02, C-21: 20 "after 11 and before 12, in
-- either format").
use Rattle.std.specs.Prelude.{ℕ, ◌^◌, Bool, true, List, [], ◌∷◌, leb, ltb, Result, Err}
use Rattle.bits.specs.Decide.{Test, needs, relabel}
use Rattle.status.specs.Sound.{sound}
use Rattle.fault.specs.Fault.{ifsr_word, dfsr_word, is_code}
use Rattle.exception.specs.declared.state.Guest.{Guest}
use Rattle.exception.specs.Vector.{aligned}
use Rattle.guest.specs.declared.answer.InjectionRefusal.{InjectionRefusal}
use Rattle.guest.specs.declared.answer.InjectionRefusal.TheVariants.{UnsoundStatus, UnalignedVbar, UnwritableFault, WideAddress, WideDomain}
use Rattle.guest.specs.declared.injection.Injection.{Injection}
use Rattle.guest.specs.declared.injection.Injection.TheVariants.{UndefinedAt, UndefinedAfter, SupervisorCall, PrefetchAbort}
use Rattle.guest.specs.declared.injection.Injection.TheVariants.{DataAbort}
use Rattle.guest.specs.Answer.{answer_number}

-- 11: an abort's fault can be written in its register, in the format that TTBCR chooses
abbrev pub writable : Injection → ℕ → Bool
writable UndefinedAt ttbcr = true
writable UndefinedAfter ttbcr = true
writable SupervisorCall ttbcr = true
writable (PrefetchAbort f) ttbcr = is_code (ifsr_word f.fault ttbcr)
writable (DataAbort a) ttbcr = is_code (dfsr_word a.fault a.write a.domain ttbcr)

-- 20: a data abort's domain is at most 15, whatever its fault and the format
abbrev pub domain_fits : Injection → Bool
domain_fits UndefinedAt = true
domain_fits UndefinedAfter = true
domain_fits SupervisorCall = true
domain_fits (PrefetchAbort f) = true
domain_fits (DataAbort a) = leb a.domain 15

-- 12: an abort's address has no bit of 63:32 set
abbrev pub address_fits : Injection → Bool
address_fits UndefinedAt = true
address_fits UndefinedAfter = true
address_fits SupervisorCall = true
address_fits (PrefetchAbort f) = ltb f.address (2 ^ 32)
address_fits (DataAbort a) = ltb a.address (2 ^ 32)

-- the tests in their order, each with its answer
abbrev pub injection_tests : Guest → Injection → List (Test (Result Unit InjectionRefusal))
injection_tests s i =
    needs (sound s.marks s.status) (Err UnsoundStatus)
    ∷ needs (aligned s.vbar) (Err UnalignedVbar)
    ∷ needs (writable i s.ttbcr) (Err UnwritableFault)
    ∷ needs (domain_fits i) (Err WideDomain)
    ∷ needs (address_fits i) (Err WideAddress)
    ∷ []

-- and with its number; 0 comes where none fails
abbrev pub injection_numbers : Guest → Injection → List (Test ℕ)
injection_numbers s i = relabel answer_number (injection_tests s i)
