-- How a step on a guest's state ends, by its two tests and what is chosen, and what it promises.
use mathlib.Core.Path.{◌≡◌, refl, sym, ap, ◌∙◌}
use mathlib.Core.Bool.{Bool, true, false, cond}
use Prim.Native.Nat.{ℕ}
use lib.Dec.{eqb}
use Rattle.bits.specs.Decide.{decide}
use Rattle.status.specs.Sound.{sound}
use Rattle.exception.specs.declared.state.Guest.{Guest}
use Rattle.exception.specs.Vector.{aligned}
use Rattle.pending.specs.declared.Queue.{Queue}
use Rattle.pending.specs.Plain.{Chosen, chosen}
use Rattle.pending.specs.Reading.{mask_in, list_of}
use Rattle.pending.specs.Step.{Step, refused, step_to, taken, deliver_to, step_of}
use Rattle.pending.specs.Step as plain
use Rattle.pending.proofs.Steps.{step_refused, step_taken, step_number_lem}
use Rattle.std.specs.Prelude.{Option, Some, None, Result, Ok, Err}
use Rattle.pending.specs.declared.Kind.{Kind}
use Rattle.delivery.specs.declared.DeliveryRefusal.{DeliveryRefusal}
use Rattle.delivery.specs.declared.DeliveryRefusal.TheVariants.{UnsoundStatus, UnalignedVbar}
use Rattle.delivery.specs.declared.Delivered as struct
use Rattle.delivery.specs.Answer.{answer_number, plain_answer}
use Rattle.delivery.specs.Deliver.{delivery_numbers, masks_of, guest_delivery}
use Rattle.delivery.specs.Promise.{Delivering}

-- the tests come to a number
both : (s : Guest) {a b : Bool} → sound s.marks s.status ≡ a → aligned s.vbar ≡ b
    → decide (delivery_numbers s) 0 ≡ cond a (cond b 0 10) 9
both s {a} {b} e f =
    ap (λ (x : Bool). cond x (cond (aligned s.vbar) 0 10) 9) e ∙ ap (λ (x : Bool). cond a (cond x 0 10) 9) f

refused_with : (q : Queue) (s : Guest) (n : ℕ) → decide (delivery_numbers s) 0 ≡ n → eqb n 0 ≡ false
    → step_to (refused n) (list_of q) s ≡ step_of guest_delivery (list_of q) s
unfolding guest_delivery
refused_with q s n e z =
    ap (λ (m : ℕ). step_to (refused m) (list_of q) s) (sym e)
    ∙ sym (step_refused guest_delivery (list_of q) s (ap (λ (m : ℕ). eqb m 0) e ∙ z))

pub unsound : (q : Queue) (s : Guest) → sound s.marks s.status ≡ false
    → step_to (refused 9) (list_of q) s ≡ step_of guest_delivery (list_of q) s
unsound q s e = refused_with q s 9 (both s e refl) refl

pub unaligned : (q : Queue) (s : Guest) → sound s.marks s.status ≡ true → aligned s.vbar ≡ false
    → step_to (refused 10) (list_of q) s ≡ step_of guest_delivery (list_of q) s
unaligned q s e f = refused_with q s 10 (both s e f) refl

pub passed : (q : Queue) (s : Guest) {c : Chosen} → sound s.marks s.status ≡ true → aligned s.vbar ≡ true
    → chosen (mask_in (masks_of s.status)) (list_of q) ≡ c → deliver_to guest_delivery (list_of q) s c ≡ step_of guest_delivery (list_of q) s
unfolding guest_delivery
passed q s e f h = sym (step_taken guest_delivery (list_of q) s (ap (λ (m : ℕ). eqb m 0) (both s e f)) h)

-- an answer's number is the plain answer's
pub same_number : (a : Result (Option Kind) DeliveryRefusal) → answer_number a ≡ plain.answer_number (plain_answer a)
same_number (Ok (Some k)) = refl
same_number (Ok None) = refl
same_number (Err UnsoundStatus) = refl
same_number (Err UnalignedVbar) = refl

-- what the calls promise, by their equation alone
pub promised : (q : Queue) (s : Guest) (r : struct.Delivered)
    → step_to (plain_answer r.outcome.answer) (list_of r.outcome.queue) r.state ≡ step_of guest_delivery (list_of q) s
    → Delivering q s r
unfolding guest_delivery
promised q s r e =
    record {
      answer = e;
      number =
          same_number r.outcome.answer
          ∙ ap (λ (x : Step Guest). plain.answer_number x.answer) e
          ∙ step_number_lem guest_delivery (list_of q) s;
    }
