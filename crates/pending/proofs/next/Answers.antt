-- `pending::next` meets its contract: each arm's tests, one after the other, choose as the plain queue does.
use mathlib.Core.Path.{◌≡◌, ap, ap₂, ◌∙◌}
use mathlib.Core.Bool.{Bool}
use Rattle.std.specs.Prelude.{Option}
use Rattle.std.specs.Option.{option_or}
use Rattle.bits.proofs.Arms.{at_arm}
use Rattle.pending.specs.declared.Kind.{Kind}
use Rattle.pending.specs.declared.Queue.{Queue}
use Rattle.pending.specs.Plain.{Chosen, chosen}
use Rattle.pending.specs.Reading.{list_of, mask_in, choice_of}
use Rattle.pending.proofs.Choices.{two_chosen, three_chosen}
use Rattle.pending.proofs.next.Goals as goal

at : (mask : Kind → Bool) {whole part : Queue} {x : Chosen} → x ≡ chosen mask (list_of part) → whole ≡ part → x ≡ chosen mask (list_of whole)
at mask = at_arm (λ (q : Queue). chosen mask (list_of q))

-- the first of two, as they were made
either : {x x' y y' z : Option (Kind × Queue)} → z ≡ option_or x y → x ≡ x' → y ≡ y' → choice_of z ≡ choice_of (option_or x' y')
either e p q = ap choice_of (e ∙ ap₂ option_or p q)

pub returns-in-Two : goal.returns-in-Two
returns-in-Two c =
    at (mask_in c.args.masks)
    (either c.or.ensures c.opened-first.ensures c.opened-second.ensures
    ∙ two_chosen (mask_in c.args.masks) c.in-Two.a c.in-Two.after c.neighbour-b.ensures)
    c.in-Two.is

pub returns-in-Three : goal.returns-in-Three
returns-in-Three c =
    at (mask_in c.args.masks)
    (either c.or-in-Three-2.ensures (c.or-in-Three.ensures ∙ ap₂ option_or c.opened-first-in-Three.ensures c.opened-second-in-Three.ensures)
    c.opened-third.ensures
    ∙ three_chosen (mask_in c.args.masks) c.in-Three.a c.in-Three.after c.neighbour-b-in-Three.ensures c.neighbour-c.ensures)
    c.in-Three.is
