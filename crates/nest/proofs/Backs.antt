-- BACK TO WHERE IT WAS: for every state and every injection or delivery taken in it, the return right after it with its correction answers
-- 0 and gives the first state again, but for the saved status and link register of the mode entered and the fault registers written, each
-- as the injection left it.
use mathlib.Core.Path.{◌≡◌, refl, sym, ap, ap₂, ◌∙◌, subst}
use mathlib.Core.Bool.{Bool, true, false, cond}
use mathlib.Core.List.{[], ◌∷◌}
use Rattle.std.specs.Prelude.{Some, Result, Ok, Err}
use lib.Dec.{eqb}
use borrow.Author.Tests.{eq-eqb, ne_eqb}
use Rattle.signed.specs.declared.Signed.{Signed}
use Rattle.exception.specs.declared.state.Guest.{Guest}
use Rattle.guest.specs.declared.answer.InjectionRefusal.{InjectionRefusal}
use Rattle.guest.specs.declared.answer.InjectionRefusal.TheVariants.{UnsoundStatus, UnalignedVbar, UnwritableFault, WideAddress, WideDomain}
use Rattle.guest.specs.declared.injection.Injection.{Injection}
use Rattle.guest.specs.declared.injector.Injected.{Injected}
use Rattle.guest.specs.Answer as injection-answer
use Rattle.guest.specs.Injection.{injection_row}
use Rattle.guest.specs.Injection as injection
use Rattle.promise.proofs.Promises.{promised as answers}
use Rattle.guest.specs.Inject.{injection_answer, injected}
use Rattle.guest.specs.Tests.{injection_numbers}
use Rattle.guest.specs.Promise.{Injecting}
use Rattle.guest.proofs.Answers.{answered as injection-answered}
use Rattle.pending.specs.declared.Kind.{Kind}
use Rattle.pending.specs.declared.Queue.{Queue}
use Rattle.pending.specs.Reading.{list_of}
use Rattle.pending.specs.Step.{Step}
use Rattle.delivery.specs.declared.Delivered as struct
use Rattle.delivery.specs.Row as delivery
use Rattle.delivery.specs.Answer.{plain_answer}
use Rattle.delivery.specs.Promise.{Delivering}
use Rattle.resume.specs.declared.Resumed.{Resumed}
use Rattle.resume.specs.Return.{returned}
use Rattle.resume.specs.Promise.{Returning}
use Rattle.resume.specs.Same.{SameBut}
use Rattle.resume.specs.Nest.{Typed}
use Rattle.resume.proofs.Backs.{back_again, undone_same}
use Rattle.nest.specs.declared.NestRefusal.{NestRefusal}
use Rattle.nest.specs.declared.Back.{Back}
use Rattle.nest.specs.Back.{undone_by, uninjected, back_from, back_of, answer_number, GoingBack}
use Rattle.nest.specs.Entry.{Entry, injecting, delivering, injection_writes, exception_of, TakenIn, after, correction_of}
use Rattle.nest.proofs.Entries.{proper, taken_sound, taken_leaves, same_correction}

pub returned_right_after : (s : Guest) (e : Entry) → Typed s → TakenIn s e
    → returned (after s e) (correction_of s e) ≡ record { answer = Ok tt; state = undone_by s e }
returned_right_after s e typed t =
    ap₂ (λ (g : Guest) (c : Signed). returned g c) (taken_leaves s e t) (same_correction s e)
    ∙ back_again s (exception_of e).row ((exception_of e).leaves s) (proper e).link typed (taken_sound s e t)

-- the same as a relation: every other field is equal
pub first_state_again : (s : Guest) (e : Entry) → Typed s → TakenIn s e
    → SameBut ((exception_of e).row.mode ∷ []) (exception_of e).writes (returned (after s e) (correction_of s e)).state s
first_state_again s e typed t =
    subst (λ (r : Resumed). SameBut ((exception_of e).row.mode ∷ []) (exception_of e).writes r.state s)
    (sym (returned_right_after s e typed t))
    (undone_same s (exception_of e).row ((exception_of e).leaves s) (proper e).link (exception_of e).writes ((proper e).faults s))

-- ---- of the calls, as they promise

-- `inject`, and then `resume` on what it left, with what `guest::correction` tells
pub injected_and_returned : (s : Guest) (i : Injection) (r : Injected) (b : Resumed) → Typed s → Injecting s i r → r.answer ≡ Ok tt
    → Returning r.state (injection.correction_of s i) b → b ≡ record { answer = Ok tt; state = undone_by s (injecting i) }
unfolding injected
injected_and_returned s i r b typed p t q =
    q.answer
    ∙ ap (λ (x : Injected). returned x.state (injection.correction_of s i)) p.answer
    ∙ returned_right_after s (injecting i) typed (sym (ap (λ (x : Injected). x.answer) p.answer) ∙ t)

-- `deliver`, and then `resume` on what it left, with what `delivery::correction` tells
pub delivered_and_returned : (q : Queue) (s : Guest) (k : Kind) (r : struct.Delivered) (b : Resumed) → Typed s → Delivering q s r
    → r.outcome.answer ≡ Ok (Some k) → Returning r.state (delivery.correction_of s k) b
    → b ≡ record { answer = Ok tt; state = undone_by s (delivering (list_of q) k) }
delivered_and_returned q s k r b typed p t h =
    h.answer
    ∙ ap (λ (x : Step Guest). returned x.state (delivery.correction_of s k)) p.answer
    ∙ returned_right_after s (delivering (list_of q) k) typed (sym (ap (λ (x : Step Guest). x.answer) p.answer) ∙ ap plain_answer t)

-- ---- of `inject_and_resume`

back_number : (s : Guest) (i : Injection) (a : Result Unit InjectionRefusal) → answer_number (back_from s i a).answer ≡ injection-answer.answer_number a
back_number s i (Ok u) = refl
back_number s i (Err UnsoundStatus) = refl
back_number s i (Err UnalignedVbar) = refl
back_number s i (Err UnwritableFault) = refl
back_number s i (Err WideAddress) = refl
back_number s i (Err WideDomain) = refl

-- what it promises, by its equation alone
promised_back : (s : Guest) (i : Injection) {b : Back} → b ≡ back_of s i → GoingBack s i b
unfolding back_of
promised_back s i e =
    answers (λ (b : Back). answer_number b.answer) (injection_numbers s i) e
    (back_number s i (injection_answer s i) ∙ (injection-answered s i).number)

module _ (s : Guest) (i : Injection) (r : Injected) (p : Injecting s i r) where
  answered : r.answer ≡ injection_answer s i
  unfolding injected
  answered = ap (λ (x : Injected). x.answer) p.answer

  -- an injection that is taken, and its return, which answers 0
  pub going_back : (b : Resumed) → Typed s → r.answer ≡ Ok tt → Returning r.state (injection.correction_of s i) b
      → (b.answer ≡ Ok tt) × GoingBack s i record { answer = Ok tt; state = b.state }
  unfolding back_of
  going_back b typed t q =
      let e = injected_and_returned s i r b typed p t q in (
        ap (λ (x : Resumed). x.answer) e,
        promised_back s i
            (ap (λ (x : Resumed). record { answer = Ok tt; state = x.state }) e
            ∙ ap (back_from s i) (sym t ∙ answered)),
      )

  -- one that is refused
  pub not_going : {f : InjectionRefusal} → r.answer ≡ Err f → GoingBack s i record { answer = Err (NestRefusal.Injection f); state = s }
  unfolding back_of
  not_going {f} e = promised_back s i (by f ∙ ap (back_from s i) (sym e ∙ answered))
    where
      by : (f : InjectionRefusal) → record { answer = Err (NestRefusal.Injection f); state = s } ≡ back_from s i (Err f)
      by UnsoundStatus = refl
      by UnalignedVbar = refl
      by UnwritableFault = refl
      by WideAddress = refl
      by WideDomain = refl

module _ (s : Guest) (i : Injection) (b : Back) (p : GoingBack s i b) where
  number_of : injection-answer.answer_number (injection_answer s i) ≡ answer_number b.answer
  number_of = (injection-answered s i).number ∙ sym p.number

  -- the call's answer and state, by a test that is known
  by_test : (t : Bool) → eqb (injection-answer.answer_number (injection_answer s i)) 0 ≡ t
      → b
      ≡ cond t (record { answer = Ok tt; state = undone_by s (injecting i) })
      (record { answer = uninjected (injection_answer s i); state = s })
  unfolding back_of
  by_test t is =
      p.answer
      ∙ ap
      (λ (x : Bool). cond x (record { answer = Ok tt; state = undone_by s (injecting i) })
      (record { answer = uninjected (injection_answer s i); state = s }))
      is

  -- THE FIRST STATE AGAIN, of the call: where it answers 0, every field is the first state's but for the saved status and link register of
  -- the mode entered and the fault registers written
  pub first_again : answer_number b.answer ≡ 0 → SameBut ((injection_row i).mode ∷ []) (injection_writes i) b.state s
  first_again zero =
      subst (λ (x : Back). SameBut ((injection_row i).mode ∷ []) (injection_writes i) x.state s)
      (sym (by_test true (eq-eqb _ 0 (number_of ∙ zero))))
      (undone_same s (injection_row i) ((exception_of (injecting i)).leaves s) (proper (injecting i)).link (injection_writes i)
      ((proper (injecting i)).faults s))

  -- a refusal leaves the very state
  pub refused_untouched : (answer_number b.answer ≡ 0 → ⊥) → b.state ≡ s
  refused_untouched n = ap (λ (x : Back). x.state) (by_test false (ne_eqb _ 0 (λ z. n (sym number_of ∙ z))))
