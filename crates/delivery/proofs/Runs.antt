-- Runs of raises and delivery steps on guest states: the laws of the plain queue, of `deliver` as it promises.
use mathlib.Core.Path.{◌≡◌, refl}
use mathlib.Core.Bool.{false, true}
use mathlib.Core.List.{List, [], ◌∷◌}
use Prim.Native.Nat.{◌≤◌}
use lib.ListN.{replicate}
use Rattle.status.specs.Mode.{is_mode}
use Rattle.status.specs.Sound.{sound}
use Rattle.exception.specs.declared.state.Guest.{Guest}
use Rattle.exception.specs.Vector.{aligned}
use Rattle.pending.specs.declared.Kind.{Kind}
use Rattle.pending.specs.declared.Kind.TheVariants.{Abort, Fiq, Irq}
use Rattle.pending.specs.declared.Queue.{Queue}
use Rattle.pending.specs.declared.Queue.TheVariants.{Empty}
use Rattle.pending.specs.Reading.{neighbour, list_of}
use Rattle.pending.specs.Step.{taken}
use Rattle.pending.specs.Run.{Made, raising, delivering, calls_of, run_from, last_from, Promised, Run, counted, DeliveredBy}
use Rattle.pending.proofs.Runs.{runs}
use Rattle.pending.proofs.Bound.{bound, three_steps, three_reached, not_by_two}
use Rattle.delivery.specs.declared.Delivered.{Delivered}
use Rattle.delivery.specs.Answer.{plain_answer}
use Rattle.delivery.specs.Deliver.{guest_delivery}
use Rattle.delivery.specs.Promise.{Delivering}

-- a step that was made, with what came back
abbrev pub made_step : Guest → Delivered → Made Guest
made_step s r = delivering s (plain_answer r.outcome.answer) r.state

-- what `deliver` promises is what a run asks of a step
pub step_promised : (q : Queue) (s : Guest) (r : Delivered) → Delivering q s r → Promised guest_delivery q (made_step s r) r.outcome.queue
step_promised q s r p = p.answer

-- OVER RUNS: any list of raises and steps, each given the queue that the last one left, with nothing waiting at the start: what came back
-- is what the plain queue answers, the state after each step included, and so is the last queue
pub guest_runs : (q last : Queue) (made : List (Made Guest)) → list_of q ≡ [] → Run guest_delivery q made last
    → (made ≡ run_from guest_delivery [] (calls_of made)) × (list_of last ≡ last_from guest_delivery [] (calls_of made))
guest_runs = runs guest_delivery

-- THE BOUND OF THREE, on guest states
pub guest_bound : (k : Kind) (q last : Queue) (made : List (Made Guest)) → Run guest_delivery q (raising k ∷ made) last
    → 3 ≤ counted guest_delivery k made
    → DeliveredBy guest_delivery 3 k made
guest_bound = bound guest_delivery

-- AND THREE IS REACHED: in User mode with nothing masked, there is a run in which k comes in the third step that finds its mask bit 0, and
-- not before
abbrev pub unmasked_user : Guest
unmasked_user =
    record {
      regs = replicate 31 0;
      pc = 0;
      status = 0x10;
      saved = record { fiq = 0; irq = 0; svc = 0; abt = 0; und = 0 };
      faults = record { dfsr = 0; ifsr = 0; dfar = 0; ifar = 0 };
      sctlr = 0;
      vbar = 0;
      ttbcr = 0;
      marks = record { pan = false; ssbs = false; dit = false };
    }

pub is_taken : taken guest_delivery unmasked_user ≡ true
unfolding guest_delivery sound is_mode aligned
is_taken = refl

pub is_unmasked : (k : Kind) → guest_delivery.mask unmasked_user k ≡ false
unfolding guest_delivery
is_unmasked Abort = refl
is_unmasked Fiq = refl
is_unmasked Irq = refl

pub guest_three : (k : Kind)
    → Run guest_delivery Empty (raising (neighbour k true) ∷ raising (neighbour k false) ∷ raising k
    ∷ three_steps guest_delivery unmasked_user is_taken is_unmasked k) Empty
guest_three = three_reached guest_delivery unmasked_user is_taken is_unmasked

pub guest_not_by_two : (k : Kind) → DeliveredBy guest_delivery 2 k (three_steps guest_delivery unmasked_user is_taken is_unmasked k) → ⊥
guest_not_by_two = not_by_two guest_delivery unmasked_user is_taken is_unmasked
