-- `delivery::deliver` meets its contract: each return's answer, queue and state are the plain queue's.
use mathlib.Core.Path.{◌≡◌, sym, ap, ◌∙◌, subst}
use mathlib.Core.Bool.{Bool, true}
use Rattle.status.specs.Sound.{sound}
use Rattle.exception.specs.declared.state.Guest.{Guest}
use Rattle.exception.specs.Vector.{aligned}
use Rattle.std.specs.Prelude.{Option, None, Result, Ok, Err}
use Rattle.pending.specs.declared.Kind.{Kind}
use Rattle.pending.specs.declared.Masks.{Masks}
use Rattle.pending.specs.declared.Queue.{Queue}
use Rattle.pending.specs.Plain.{chosen}
use Rattle.pending.specs.Reading.{mask_in, list_of, choice_of}
use Rattle.pending.specs.Step.{step_to, deliver_to, step_of}
use Rattle.delivery.specs.declared.DeliveryRefusal.{DeliveryRefusal}
use Rattle.delivery.specs.declared.DeliveryRefusal.TheVariants.{UnsoundStatus, UnalignedVbar}
use Rattle.delivery.specs.declared.Delivered.{Delivered}
use Rattle.delivery.specs.Answer.{plain_answer}
use Rattle.delivery.specs.Deliver.{masks_of, guest_delivery}
use Rattle.delivery.specs.Promise.{Delivering}
use Rattle.delivery.proofs.Answers.{unsound, unaligned, passed, promised}
use Rattle.delivery.proofs.deliver.Goals as goal

-- past both tests, with the choice in hand
settled : (q : Queue) (s : Guest) {a b : Bool} {m : Masks} {x y : Option (Kind × Queue)} → a ≡ sound s.marks s.status → a ≡ true → b ≡ aligned s.vbar
    → b ≡ true
    → m ≡ masks_of s.status → choice_of x ≡ chosen (mask_in m) (list_of q) → x ≡ y
    → deliver_to guest_delivery (list_of q) s (choice_of y) ≡ step_of guest_delivery (list_of q) s
settled q s d e f g h n k =
    passed q s (sym d ∙ e) (sym f ∙ g)
    (ap (λ (m : Masks). chosen (mask_in m) (list_of q)) (sym h) ∙ sym n ∙ ap choice_of k)

-- a step that moved nothing promises what the plain queue's step says of it
nothing-moved : (q : Queue) (s : Guest) (a : Result (Option Kind) DeliveryRefusal) {r : Delivered} → r ≡ record { outcome = record { answer = a; queue = q }; state = s }
    → step_to (plain_answer a) (list_of q) s ≡ step_of guest_delivery (list_of q) s → Delivering q s r
nothing-moved q s a e f = subst (Delivering q s) (sym e) (promised q s record { outcome = record { answer = a; queue = q }; state = s } f)

pub returns-then-not-sound : goal.returns-then-not-sound
returns-then-not-sound c =
    nothing-moved c.args.queue c.args.state (Err UnsoundStatus) c.unmoved.ensures
    (unsound c.args.queue c.args.state (sym c.sound.ensures ∙ c.if-not-sound.true))

pub returns-then-not-aligned : goal.returns-then-not-aligned
returns-then-not-aligned c =
    nothing-moved c.args.queue c.args.state (Err UnalignedVbar) c.unmoved-then-not-aligned.ensures
    (unaligned c.args.queue c.args.state (sym c.sound.ensures ∙ c.if-not-sound.false)
    (sym c.aligned.ensures ∙ c.if-not-aligned.true))

pub returns-in-None : goal.returns-in-None
returns-in-None c = nothing-moved _ _ (Ok None) c.unmoved-in-None.ensures (settled c.args.queue c.args.state c.sound.ensures c.if-not-sound.false c.aligned.ensures c.if-not-aligned.false
    c.masks_of.ensures c.next.ensures c.in-None.is)

pub returns-in-Some : goal.returns-in-Some
unfolding guest_delivery
returns-in-Some c =
    promised _ _ _
    (ap (step_to _ _) c.delivered_in.ensures ∙ settled c.args.queue c.args.state c.sound.ensures c.if-not-sound.false c.aligned.ensures c.if-not-aligned.false
    c.masks_of.ensures c.next.ensures c.in-Some.is)
