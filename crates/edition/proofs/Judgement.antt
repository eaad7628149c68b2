-- The judgement of an edition on the mask of a test, over every number of editions: it is the judgement on the test.
-- Assumes nothing.
use mathlib.Core.Path.{◌≡◌, refl, ◌∙◌, sym, ap}
use mathlib.Core.Bool.{Bool, true, false, cond, not}
use Prim.Native.Nat.{ℕ, ◌<◌}
use lib.Count.{ones}
use lib.Dec.{eqb}
use Rattle.std.specs.Prelude.{Ok, Err}
use Rattle.bits.proofs.Arms.{absurd_answer}
use Rattle.edition.specs.Mask.{mask_below}
use Rattle.edition.specs.Judge.{judge_of}
use Rattle.edition.specs.declared.Refusal.TheVariants.{NoEdition, OtherEditions}
use Rattle.edition.proofs.Masks.{mask_bit}

pub judge_test : (n : ℕ) (test : ℕ → Bool) (e : ℕ) → e < n
    → judge_of e (mask_below n test)
    ≡ cond (not (eqb (mask_below n test) 0)) (cond (test e) (Ok tt) (Err (OtherEditions (mask_below n test) (ones (mask_below n test)))))
    (Err NoEdition)
unfolding judge_of
judge_test n test e is =
    ap
    (λ (b : Bool). cond (not (eqb (mask_below n test) 0))
    (cond b (Ok tt) (Err (OtherEditions (mask_below n test) (ones (mask_below n test)))))
    (Err NoEdition))
    (mask_bit n test e is)

-- what is taken, the edition has
pub judge_taken : (n : ℕ) (test : ℕ → Bool) (e : ℕ) → e < n → judge_of e (mask_below n test) ≡ Ok tt → test e ≡ true
judge_taken n test e is t = by (not (eqb (mask_below n test) 0)) (test e) (sym (judge_test n test e is) ∙ t)
  where
    by : (some has : Bool)
        → cond some (cond has (Ok tt) (Err (OtherEditions (mask_below n test) (ones (mask_below n test))))) (Err NoEdition) ≡ Ok (tt {0})
        → has ≡ true
    by true true q = refl
    by true false q = absurd_answer (cc q)
    by false has q = absurd_answer (cc q)
