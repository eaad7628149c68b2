-- Facts of the three kinds, each case computed.
-- Assumes nothing.
use mathlib.Core.Path.{◌≡◌, refl, sym, ap, ◌∙◌}
use mathlib.Core.Bool.{Bool, true, false, not, ◌||◌, true≢false, or-false}
use Rattle.pending.specs.declared.Kind.{Kind}
use Rattle.pending.specs.declared.Kind.TheVariants.{Abort, Fiq, Irq}
use Rattle.pending.specs.declared.Queue.TheVariants.{Three}
use Rattle.pending.specs.Plain.{same, waits}
use Rattle.pending.specs.Reading.{neighbour, list_of}

pub same_kind : (j k : Kind) → same j k ≡ true → j ≡ k
same_kind Abort Abort e = refl
same_kind Abort Fiq e = absurd (true≢false (sym e))
same_kind Abort Irq e = absurd (true≢false (sym e))
same_kind Fiq Abort e = absurd (true≢false (sym e))
same_kind Fiq Fiq e = refl
same_kind Fiq Irq e = absurd (true≢false (sym e))
same_kind Irq Abort e = absurd (true≢false (sym e))
same_kind Irq Fiq e = absurd (true≢false (sym e))
same_kind Irq Irq e = refl

pub same_self : (k : Kind) → same k k ≡ true
same_self Abort = refl
same_self Fiq = refl
same_self Irq = refl

-- a kind is another one or one of its two neighbours
one_of_three : (k a : Kind) (after : Bool) → (same k a || (same k (neighbour a after) || same k (neighbour a (not after)))) ≡ true
one_of_three Abort Abort true = refl
one_of_three Abort Abort false = refl
one_of_three Abort Fiq true = refl
one_of_three Abort Fiq false = refl
one_of_three Abort Irq true = refl
one_of_three Abort Irq false = refl
one_of_three Fiq Abort true = refl
one_of_three Fiq Abort false = refl
one_of_three Fiq Fiq true = refl
one_of_three Fiq Fiq false = refl
one_of_three Fiq Irq true = refl
one_of_three Fiq Irq false = refl
one_of_three Irq Abort true = refl
one_of_three Irq Abort false = refl
one_of_three Irq Fiq true = refl
one_of_three Irq Fiq false = refl
one_of_three Irq Irq true = refl
one_of_three Irq Irq false = refl

-- all three wait in a queue of three
pub all_wait : (k a : Kind) (after : Bool) → waits k (list_of (Three a after)) ≡ true
all_wait k a after =
    ap (λ (b : Bool). same k a || (same k (neighbour a after) || b)) (or-false (same k (neighbour a (not after)))) ∙ one_of_three k a after

-- so that one which is neither the first nor the one neighbour is the other
other_one : (k a : Kind) (after : Bool) → same k a ≡ false → same k (neighbour a after) ≡ false → same k (neighbour a (not after)) ≡ true
other_one k a after p q =
    ap (λ (b : Bool). b || same k (neighbour a (not after))) (sym q)
    ∙ ap (λ (b : Bool). b || (same k (neighbour a after) || same k (neighbour a (not after)))) (sym p)
    ∙ one_of_three k a after

pub third : (k a : Kind) (after : Bool) → same k a ≡ false → same k (neighbour a after) ≡ false → neighbour a (not after) ≡ k
third k a after p q = sym (same_kind k (neighbour a (not after)) (other_one k a after p q))

-- the neighbour that another kind is
pub second : (k a : Kind) → same k a ≡ false → neighbour a (same k (neighbour a true)) ≡ k
second k a p = by (same k (neighbour a true)) refl
  where
    by : (b : Bool) → same k (neighbour a true) ≡ b → neighbour a b ≡ k
    by true q = sym (same_kind k (neighbour a true) q)
    by false q = third k a true p q

-- the neighbour's neighbour in the same direction is the other neighbour
pub round : (a : Kind) (after : Bool) → neighbour (neighbour a after) after ≡ neighbour a (not after)
round Abort true = refl
round Abort false = refl
round Fiq true = refl
round Fiq false = refl
round Irq true = refl
round Irq false = refl
