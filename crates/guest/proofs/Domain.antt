-- Where the domain of a data abort counts (02, C-21), for every state and every access.
use Rattle.std.specs.Prelude.{Option, Result, Ok, Err}
use mathlib.Core.Path.{◌≡◌, sym, ap₂, ◌∙◌}
use mathlib.Core.Bool.{Bool, false, not, ◌&&◌}
use mathlib.Core.List.{[], ◌∷◌}
use Prim.Native.Nat.{ℕ, ◌^◌, ◌≤◌}
use lib.Dec.{ltb}
use borrow.Author.Tests.{le-leb}
use Rattle.bits.specs.Decide.{needs, decide}
use Rattle.status.specs.Sound.{sound}
use Rattle.fault.specs.Fault.{fault_row, is_long, is_code, code_in}
use Rattle.fault.proofs.Domains.{no_domain}
use Rattle.exception.specs.declared.state.Guest.{Guest}
use Rattle.exception.specs.Vector.{aligned}
use Rattle.exception.specs.Entry.{entered}
use Rattle.guest.specs.declared.answer.InjectionRefusal.{InjectionRefusal}
use Rattle.guest.specs.declared.answer.InjectionRefusal.TheVariants.{UnsoundStatus, UnalignedVbar, UnwritableFault, WideAddress}
use Rattle.guest.specs.declared.answer.InjectionRefusal.TheVariants.{WideDomain}
use Rattle.guest.specs.declared.injection.Access.{Access}
use Rattle.guest.specs.declared.injection.Injection.{Injection}
use Rattle.guest.specs.declared.injection.Injection.TheVariants.{DataAbort}
use Rattle.guest.specs.declared.injector.Injected.{Injected}
use Rattle.guest.specs.Injection.{injection_row}
use Rattle.guest.specs.Inject.{access_writes, injection_answer, resulting, injected}

module _ (s : Guest) (a : Access) where
  -- the data abort with another domain
  abbrev pub with_domain : ℕ → Injection
  with_domain d = DataAbort record { fault = a.fault; address = a.address; write = a.write; domain = d }

  -- an injection by what looks at the domain: DFSR, and whether 20 passes
  abbrev answer_by : Option ℕ → Bool → Result Unit InjectionRefusal
  answer_by dfsr fits =
      decide
      (needs (sound s.marks s.status) (Err UnsoundStatus)
      ∷ needs (aligned s.vbar) (Err UnalignedVbar)
      ∷ needs (is_code dfsr) (Err UnwritableFault)
      ∷ needs fits (Err WideDomain)
      ∷ needs (ltb a.address (2 ^ 32)) (Err WideAddress)
      ∷ [])
      (Ok tt)

  abbrev injected_by : Option ℕ → Bool → Injected
  injected_by dfsr fits =
      record {
        answer = answer_by dfsr fits;
        state = resulting (answer_by dfsr fits) s (entered s (injection_row (DataAbort a))
            (access_writes s.faults (code_in dfsr) a.address));
      }

  -- OUTSIDE THE TWO CASES, and in the long format, a domain of 0 to 15 changes nothing: answer and whole state are those of domain 0
  pub domain_ignored : (d : ℕ) → d ≤ 15 → ((fault_row a.fault).domain && not (is_long s.ttbcr)) ≡ false
      → injected s (with_domain d) ≡ injected s (with_domain 0)
  unfolding injected injection_answer
  domain_ignored d h e =
      ap₂ injected_by
      (no_domain (fault_row a.fault) a.write s.ttbcr d e ∙ sym (no_domain (fault_row a.fault) a.write s.ttbcr 0 e))
      (le-leb d 15 h)
