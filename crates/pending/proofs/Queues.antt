-- A queue's list has no kind twice, and a list is one queue's at most. With `reached` (Reached.antt) the values of `Queue` are exactly the
-- sixteen lists without repeats.
-- Assumes nothing.
use mathlib.Core.Path.{◌≡◌, refl, sym, ap, ◌∙◌}
use mathlib.Core.Bool.{Bool, true, false, ◌||◌, or-false}
use mathlib.Core.List.{List, [], ◌∷◌}
use Prim.Native.Nat.{◌≤◌}
use native.Mathlib.Omega.{arith}
use lib.ListN.{length}
use Rattle.bits.proofs.Booleans.{either_false}
use Rattle.pending.specs.declared.Kind.{Kind}
use Rattle.pending.specs.declared.Kind.TheVariants.{Abort, Fiq, Irq}
use Rattle.pending.specs.declared.Queue.{Queue}
use Rattle.pending.specs.declared.Queue.TheVariants.{Empty, One, Two, Three}
use Rattle.pending.specs.Plain.{same, waits, distinct_kinds, raised}
use Rattle.pending.specs.Reading.{neighbour, list_of}
use Rattle.pending.proofs.Round.{all_wait, third, second}
use Rattle.pending.proofs.Lists.{raise_keeps, raise_adds}

-- NO QUEUE HAS A KIND TWICE
pub no_repeats : (q : Queue) → distinct_kinds (list_of q) ≡ true
no_repeats Empty = refl
no_repeats (One a) = refl
no_repeats (Two Abort true) = refl
no_repeats (Two Abort false) = refl
no_repeats (Two Fiq true) = refl
no_repeats (Two Fiq false) = refl
no_repeats (Two Irq true) = refl
no_repeats (Two Irq false) = refl
no_repeats (Three Abort true) = refl
no_repeats (Three Abort false) = refl
no_repeats (Three Fiq true) = refl
no_repeats (Three Fiq false) = refl
no_repeats (Three Irq true) = refl
no_repeats (Three Irq false) = refl

pub at_most_three : (q : Queue) → length (list_of q) ≤ 3
at_most_three Empty = omega arith
at_most_three (One a) = omega arith
at_most_three (Two a after) = omega arith
at_most_three (Three a after) = omega arith

-- the queue of a list: where the list has no kind twice
queue_of : List Kind → Queue
queue_of [] = Empty
queue_of (a ∷ []) = One a
queue_of (a ∷ b ∷ []) = Two a (same b (neighbour a true))
queue_of (a ∷ b ∷ c ∷ rest) = Three a (same b (neighbour a true))

back : (q : Queue) → queue_of (list_of q) ≡ q
unfolding queue_of
back Empty = refl
back (One a) = refl
back (Two Abort true) = refl
back (Two Abort false) = refl
back (Two Fiq true) = refl
back (Two Fiq false) = refl
back (Two Irq true) = refl
back (Two Irq false) = refl
back (Three Abort true) = refl
back (Three Abort false) = refl
back (Three Fiq true) = refl
back (Three Fiq false) = refl
back (Three Irq true) = refl
back (Three Irq false) = refl

-- A LIST IS ONE QUEUE'S AT MOST
pub one_queue : (q r : Queue) → list_of q ≡ list_of r → q ≡ r
one_queue q r e = sym (back q) ∙ ap queue_of e ∙ back r

-- ---- a raise makes a list that is some queue's

-- one that waits, in a list of one, two or three
pub again : (k : Kind) (q : Queue) → waits k (list_of q) ≡ true → list_of q ≡ raised k (list_of q)
again k q w = sym (raise_keeps k (list_of q) w)

pub again_one : (k a : Kind) → same k a ≡ true → list_of (One a) ≡ raised k (list_of (One a))
again_one k a t = again k (One a) (ap (λ (b : Bool). b || false) t)

-- whether one waits in a list of two
in_two : (k a : Kind) (after : Bool) → waits k (list_of (Two a after)) ≡ (same k a || same k (neighbour a after))
in_two k a after = ap (λ (b : Bool). same k a || b) (or-false (same k (neighbour a after)))

pub again_two : (k a : Kind) (after : Bool) → (same k a || same k (neighbour a after)) ≡ true
    → list_of (Two a after) ≡ raised k (list_of (Two a after))
again_two k a after t = again k (Two a after) (in_two k a after ∙ t)

pub again_three : (k a : Kind) (after : Bool) → list_of (Three a after) ≡ raised k (list_of (Three a after))
again_three k a after = again k (Three a after) (all_wait k a after)

-- one that doesn't
pub first_raised : (k : Kind) → list_of (One k) ≡ raised k []
unfolding raised
first_raised k = refl

pub second_raised : (k a : Kind) → same k a ≡ false → list_of (Two a (same k (neighbour a true))) ≡ raised k (list_of (One a))
second_raised k a f =
    ap (λ (b : Kind). a ∷ b ∷ []) (second k a f) ∙ sym (raise_adds k (a ∷ []) (ap (λ (b : Bool). b || false) f))

pub third_raised : (k a : Kind) (after : Bool) → (same k a || same k (neighbour a after)) ≡ false
    → list_of (Three a after) ≡ raised k (list_of (Two a after))
third_raised k a after f =
    let g = either_false (same k a) (same k (neighbour a after)) f in
    let h : same k (neighbour a after) ≡ false = ap (λ (b : Bool). b || same k (neighbour a after)) (sym g) ∙ f in
    ap (λ (c : Kind). a ∷ neighbour a after ∷ c ∷ []) (third k a after g h)
    ∙ sym (raise_adds k (a ∷ neighbour a after ∷ []) (in_two k a after ∙ f))

pub raise_queue : (q : Queue) (k : Kind) → (r : Queue) × (list_of r ≡ raised k (list_of q))
raise_queue Empty k = (One k, first_raised k)
raise_queue (One a) k = by (same k a) refl
  where
    by : (b : Bool) → same k a ≡ b → (r : Queue) × (list_of r ≡ raised k (list_of (One a)))
    by true t = (One a, again_one k a t)
    by false f = (Two a (same k (neighbour a true)), second_raised k a f)
raise_queue (Two a after) k = by (same k a || same k (neighbour a after)) refl
  where
    by : (b : Bool) → (same k a || same k (neighbour a after)) ≡ b → (r : Queue) × (list_of r ≡ raised k (list_of (Two a after)))
    by true t = (Two a after, again_two k a after t)
    by false f = (Three a after, third_raised k a after f)
raise_queue (Three a after) k = (Three a after, again_three k a after)
