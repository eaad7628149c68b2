-- What a number raises is its kind.
-- Assumes nothing.
use mathlib.Core.Path.{◌≡◌, refl}
use mathlib.Core.Bool.{Bool, true, false, cond}
use mathlib.Core.List.{List}
use Prim.Native.Nat.{ℕ}
use lib.Dec.{eqb}
use Rattle.std.specs.Prelude.{Some, None}
use Rattle.bits.proofs.Arms.{absurd_answer}
use Rattle.pending.specs.declared.Kind.{Kind}
use Rattle.pending.specs.declared.Kind.TheVariants.{Abort, Fiq, Irq}
use Rattle.pending.specs.Plain.{raised}
use Rattle.pending_words.specs.Number.{kind_of, raised_by}

pub raised_kind : (n : ℕ) (k : Kind) (l : List Kind) → kind_of n ≡ Some k → raised k l ≡ raised_by n l
unfolding kind_of raised_by
raised_kind n k l = by (eqb n 1) (eqb n 2) (eqb n 3)
  where
    by : (x y z : Bool) → cond x (Some Abort) (cond y (Some Fiq) (cond z (Some Irq) None)) ≡ Some k
        → raised k l ≡ cond x (raised Abort l) (cond y (raised Fiq l) (cond z (raised Irq l) l))
    by true y z e = cc
    by false true z e = cc
    by false false true e = cc
    by false false false e = absurd_answer (cc e)

pub raised_none : (n : ℕ) (l : List Kind) → kind_of n ≡ None → l ≡ raised_by n l
unfolding kind_of raised_by
raised_none n l = by (eqb n 1) (eqb n 2) (eqb n 3)
  where
    by : (x y z : Bool) → cond x (Some Abort) (cond y (Some Fiq) (cond z (Some Irq) None)) ≡ None
        → l ≡ cond x (raised Abort l) (cond y (raised Fiq l) (cond z (raised Irq l) l))
    by true y z e = absurd_answer (cc e)
    by false true z e = absurd_answer (cc e)
    by false false true e = absurd_answer (cc e)
    by false false false e = refl
