-- Inner contracts, which nobody has to believe: what an injection does is settled by `injected` (Inject.antt) alone.
use Rattle.std.specs.Prelude.{ℕ, ◌^◌, cond, [], ◌∷◌, ltb, Option, Result, Ok, Err}
use Rattle.bits.specs.Decide.{needs, decide}
use Rattle.fault.specs.Fault.{is_code, code_in}
use Rattle.exception.specs.declared.state.FaultRegisters.{FaultRegisters}
use Rattle.exception.specs.declared.state.Guest.{Guest}
use Rattle.guest.specs.declared.answer.InjectionRefusal.{InjectionRefusal}
use Rattle.guest.specs.declared.answer.InjectionRefusal.TheVariants.{UnwritableFault, WideAddress, WideDomain}
use Rattle.guest.specs.declared.injection.Injection.{Injection}
use Rattle.guest.specs.Tests.{writable, domain_fits, address_fits}
use Rattle.guest.specs.Inject.{faults_after, injection_answer}

abbrev pub coded : Option ℕ → Result ℕ InjectionRefusal
coded status = cond (is_code status) (Ok (code_in status)) (Err UnwritableFault)

abbrev pub address_of : ℕ → Result ℕ InjectionRefusal
address_of address = cond (ltb address (2 ^ 32)) (Ok address) (Err WideAddress)

-- the fault registers that an injection makes, where its fault can be written, then its domain fits, and then its address
abbrev pub report_of : Injection → FaultRegisters → ℕ → Result FaultRegisters InjectionRefusal
report_of i old ttbcr =
    decide
    (needs (writable i ttbcr) (Err UnwritableFault)
    ∷ needs (domain_fits i) (Err WideDomain)
    ∷ needs (address_fits i) (Err WideAddress)
    ∷ [])
    (Ok (faults_after i old ttbcr))

-- an answer, with the fault registers after it where it is taken
abbrev pub with_faults : FaultRegisters → Result Unit InjectionRefusal → Result FaultRegisters InjectionRefusal
with_faults faults (Ok u) = Ok faults
with_faults faults (Err r) = Err r

abbrev pub judged : Guest → Injection → Result FaultRegisters InjectionRefusal
judged s i = with_faults (faults_after i s.faults s.ttbcr) (injection_answer s i)
