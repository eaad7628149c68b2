-- Laws of the answer, and of the state beside it, for every state and every injection.
use Rattle.std.specs.Prelude.{Result, Ok, Err}
use mathlib.Core.Path.{◌≡◌, refl, sym, ap, ◌∙◌}
use mathlib.Core.Bool.{true, cond}
use mathlib.Core.Logic.{◌↔◌}
use Prim.Native.Nat.{ℕ}
use lib.Dec.{T, eqb}
use Rattle.bits.specs.Among.{among}
use Rattle.bits.specs.Decide.{decide, FirstFails}
use Rattle.bits.proofs.Deciding.{all_pass, answer_is}
use Rattle.promise.specs.Promise.{Answers}
use Rattle.promise.proofs.Promises.{by_tests, first_exactly, promised as answers}
use Rattle.status.specs.Sound.{sound}
use Rattle.exception.specs.declared.state.Guest.{Guest}
use Rattle.exception.specs.Vector.{aligned}
use Rattle.guest.specs.declared.answer.InjectionRefusal.{InjectionRefusal}
use Rattle.guest.specs.declared.answer.InjectionRefusal.TheVariants.{UnsoundStatus, UnalignedVbar, UnwritableFault, WideAddress}
use Rattle.guest.specs.declared.answer.InjectionRefusal.TheVariants.{WideDomain}
use Rattle.guest.specs.declared.injection.Injection.{Injection}
use Rattle.guest.specs.declared.injector.Injected.{Injected}
use Rattle.guest.specs.Answer.{answer_number, injection_list}
use Rattle.guest.specs.Tests.{writable, domain_fits, address_fits, injection_tests, injection_numbers}
use Rattle.guest.specs.Inject.{guest_after, injection_answer, resulting, injected}
use Rattle.guest.specs.Promise.{Injecting}

-- ---- the first test that fails gives the number

pub answered : (s : Guest) (i : Injection) → Answers answer_number (injection_answer s i) (injection_numbers s i) (injection_answer s i)
unfolding injection_answer
answered s i = by_tests answer_number (injection_tests s i) (Ok tt) refl refl refl

-- what the calls promise of the answer and the state, by their equation alone
pub promised : (s : Guest) (i : Injection) {r : Injected} → r ≡ injected s i → Injecting s i r
unfolding injected
promised s i e = answers (λ r. answer_number r.answer) (injection_numbers s i) e (answered s i).number

-- an injection answers 0, 9 to 12 or 20
pub number_listed : (s : Guest) (i : Injection) → T (among injection_list (decide (injection_numbers s i) 0))
number_listed s i = answer_is (λ n. T (among injection_list n)) (injection_numbers s i) 0 (tt, (tt, (tt, (tt, (tt, tt))))) tt

-- EACH REFUSAL EXACTLY: an injection answers a number exactly when its test is the first that fails, and 0 exactly when none fails
pub decided : (s : Guest) (i : Injection) (k : ℕ) → (answer_number (injection_answer s i) ≡ k) ↔ FirstFails k (injection_numbers s i)
decided s i = first_exactly (injection_numbers s i) tt (answered s i)

-- ---- an injection is taken exactly when it passes the five tests

-- the five tests of an injection pass
pub record Passes (s : Guest) (i : Injection) : Type 0 where
  pub status : sound s.marks s.status ≡ true
  pub vbar : aligned s.vbar ≡ true
  pub fault : writable i s.ttbcr ≡ true
  pub domain : domain_fits i ≡ true
  pub address : address_fits i ≡ true

passes : (s : Guest) (i : Injection) → injection_answer s i ≡ Ok tt → Passes s i
passes s i e =
    let p = (decided s i 0).0 (ap answer_number e) in
    record { status = p.0; vbar = p.1.0; fault = p.1.1.0; domain = p.1.1.1.0; address = p.1.1.1.1.0 }

taken : (s : Guest) (i : Injection) → Passes s i → injection_answer s i ≡ Ok tt
unfolding injection_answer
taken s i p = all_pass (injection_tests s i) (Ok tt) (p.status, (p.vbar, (p.fault, (p.domain, (p.address, tt)))))

pub accepted_exactly : (s : Guest) (i : Injection) → (injection_answer s i ≡ Ok tt) ↔ Passes s i
accepted_exactly s i = (passes s i, taken s i)

-- ---- a refusal gives back the very state, and an injection that is taken the defined one

untouched : (a : Result Unit InjectionRefusal) (s after : Guest) → (a ≡ Ok tt → ⊥) → resulting a s after ≡ s
untouched (Ok tt) s after n = absurd (n refl)
untouched (Err UnsoundStatus) s after n = refl
untouched (Err UnalignedVbar) s after n = refl
untouched (Err UnwritableFault) s after n = refl
untouched (Err WideAddress) s after n = refl
untouched (Err WideDomain) s after n = refl

pub refused_untouched : (s : Guest) (i : Injection) → (injection_answer s i ≡ Ok tt → ⊥) → (injected s i).state ≡ s
unfolding injected
refused_untouched s i = untouched (injection_answer s i) s (guest_after s i)

pub accepted_state : (s : Guest) (i : Injection) → injection_answer s i ≡ Ok tt → (injected s i).state ≡ guest_after s i
unfolding injected
accepted_state s i e = ap (λ (a : Result Unit InjectionRefusal). resulting a s (guest_after s i)) e

-- ---- no two answers have one number

answer_at : ℕ → Result Unit InjectionRefusal
answer_at n =
    cond (eqb n 0) (Ok tt)
    (cond (eqb n 9) (Err UnsoundStatus) (cond (eqb n 10) (Err UnalignedVbar)
    (cond (eqb n 11) (Err UnwritableFault) (cond (eqb n 12) (Err WideAddress) (Err WideDomain)))))

back : (a : Result Unit InjectionRefusal) → answer_at (answer_number a) ≡ a
unfolding answer_at
back (Ok tt) = refl
back (Err UnsoundStatus) = refl
back (Err UnalignedVbar) = refl
back (Err UnwritableFault) = refl
back (Err WideAddress) = refl
back (Err WideDomain) = refl

pub numbers_differ : (a b : Result Unit InjectionRefusal) → answer_number a ≡ answer_number b → a ≡ b
numbers_differ a b e = sym (back a) ∙ ap answer_at e ∙ back b
