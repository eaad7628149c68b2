-- `pending::raise` meets its contract: each arm's list is the plain queue's.
use mathlib.Core.Path.{◌≡◌, refl, sym, ap, ap₂, ◌∙◌}
use mathlib.Core.Bool.{Bool, ◌||◌}
use mathlib.Core.List.{List}
use Rattle.bits.proofs.Arms.{at_arm}
use denote.Enum.Bare.{sameb}
use Rattle.pending.specs.contracts.Kind.{the_type}
use Rattle.pending.specs.declared.Kind.{Kind}
use Rattle.pending.specs.declared.Kind.TheVariants.{Abort, Fiq, Irq}
use Rattle.pending.specs.declared.Queue.{Queue}
use Rattle.pending.specs.declared.Queue.TheVariants.{Two}
use Rattle.pending.specs.Plain.{same, raised}
use Rattle.pending.specs.Reading.{neighbour, list_of}
use Rattle.pending.proofs.Queues.{again_one, again_two, again_three, first_raised, second_raised, third_raised}
use Rattle.pending.proofs.raise.Goals as goal

at : (k : Kind) {whole part : Queue} {l : List Kind} → l ≡ raised k (list_of part) → whole ≡ part → l ≡ raised k (list_of whole)
at k = at_arm (λ (q : Queue). raised k (list_of q))

-- `==` is the definition's test
equal : (j k : Kind) → sameb the_type j k ≡ same j k
equal Abort Abort = refl
equal Abort Fiq = refl
equal Abort Irq = refl
equal Fiq Abort = refl
equal Fiq Fiq = refl
equal Fiq Irq = refl
equal Irq Abort = refl
equal Irq Fiq = refl
equal Irq Irq = refl

-- the two tests of a pair, by the kinds that they are made on
tests : (k a : Kind) (after : Bool) {b : Kind} {x y v : Bool} → b ≡ neighbour a after → x ≡ sameb the_type k a → y ≡ sameb the_type k b
    → (x || y) ≡ v → (same k a || same k (neighbour a after)) ≡ v
tests k a after {b} e p q v = sym (ap₂ (λ (x y : Bool). x || y) (p ∙ equal k a) (q ∙ equal k b ∙ ap (same k) e)) ∙ v

pub returns-in-Empty : goal.returns-in-Empty
returns-in-Empty c = at _ (first_raised _) c.in-Empty.is

pub returns-then-eq : goal.returns-then-eq
returns-then-eq c = at _ (again_one _ _ (sym (c.eq.ensures ∙ equal c.args.kind c.in-One.a) ∙ c.if-eq.true)) c.in-One.is

pub returns-else-eq : goal.returns-else-eq
returns-else-eq c =
    let a = c.in-One.a in
    let k = c.args.kind in
    at k
    (ap (λ (after : Bool). list_of (Two a after)) (c.eq-else-eq.ensures ∙ equal k _ ∙ ap (same k) c.neighbour.ensures)
    ∙ second_raised k a (sym (c.eq.ensures ∙ equal k a) ∙ c.if-eq.false))
    c.in-One.is

pub returns-then-eq-2 : goal.returns-then-eq-2
returns-then-eq-2 c =
    let k = c.args.kind in
    at k
    (again_two k c.in-Two.a c.in-Two.after
    (tests k c.in-Two.a c.in-Two.after c.neighbour-b.ensures c.eq-in-Two.ensures c.eq-in-Two-2.ensures c.if-eq-2.true))
    c.in-Two.is

pub returns-else-eq-2 : goal.returns-else-eq-2
returns-else-eq-2 c =
    let k = c.args.kind in
    at k
    (third_raised k c.in-Two.a c.in-Two.after
    (tests k c.in-Two.a c.in-Two.after c.neighbour-b.ensures c.eq-in-Two.ensures c.eq-in-Two-2.ensures c.if-eq-2.false))
    c.in-Two.is

pub returns-in-Three : goal.returns-in-Three
returns-in-Three c = at _ (again_three _ _ _) c.in-Three.is
