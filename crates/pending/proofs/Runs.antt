-- Runs of calls, over any type of guest state.
-- Assumes nothing.
use mathlib.Core.Path.{◌≡◌, refl, sym, ap, ap₂, ◌∙◌, subst}
use mathlib.Core.Bool.{true, false, true≢false}
use mathlib.Core.List.{List, [], ◌∷◌}
use mathlib.Core.Logic.{inl, inr}
use Rattle.pending.specs.declared.Kind.{Kind}
use Rattle.pending.specs.declared.Queue.{Queue}
use Rattle.pending.specs.Plain.{waits}
use Rattle.pending.specs.Reading.{list_of}
use Rattle.pending.specs.Step.{Delivery, Answer, delivered, Step, step_to}
use Rattle.pending.specs.Run.{Made, raising, delivering, call_of, calls_of, answered, left_by, run_from, last_from}
use Rattle.pending.specs.Run.{Promised, Run, counts}
use Rattle.pending.proofs.Lists.{raise_leaves}
use Rattle.pending.proofs.Steps.{Moved, moved}

module _ {S : Type 0} (d : Delivery S) where
  -- a call as promised: what came back is what the plain queue answers, and the queue that it left is the plain queue's
  call_answered : (q r : Queue) (m : Made S) → Promised d q m r → m ≡ answered d (list_of q) (call_of m)
  call_answered q r (raising k) p = refl
  call_answered q r (delivering s a t) p = ap (λ (x : Step S). delivering s x.answer x.state) p

  call_left : (q r : Queue) (m : Made S) → Promised d q m r → list_of r ≡ left_by d (list_of q) (call_of m)
  call_left q r (raising k) p = p
  call_left q r (delivering s a t) p = ap (λ (x : Step S). x.waiting) p

  pub run_from_lem : (q last : Queue) (made : List (Made S)) → Run d q made last
      → (made ≡ run_from d (list_of q) (calls_of made)) × (list_of last ≡ last_from d (list_of q) (calls_of made))
  run_from_lem q last [] run = (refl, ap list_of (sym run))
  run_from_lem q last (m ∷ made) run =
      let rest = run_from_lem run.0 last made run.2 in
      let left = call_left q run.0 m run.1 in (
        ap₂ (λ (x : Made S) (y : List (Made S)). x ∷ y) (call_answered q run.0 m run.1)
            (rest.0 ∙ ap (λ (l : List Kind). run_from d l (calls_of made)) left),
        rest.1 ∙ ap (λ (l : List Kind). last_from d l (calls_of made)) left,
      )

  -- OVER RUNS: whatever calls were made, one after the other and with nothing waiting at the start, what came back from each is what the
  -- plain queue answers to these calls, the state after each step included; and the queue that the last one left is the plain queue's
  pub runs : (q last : Queue) (made : List (Made S)) → list_of q ≡ [] → Run d q made last
      → (made ≡ run_from d [] (calls_of made)) × (list_of last ≡ last_from d [] (calls_of made))
  runs q last made empty run =
      subst (λ (l : List Kind). (made ≡ run_from d l (calls_of made)) × (list_of last ≡ last_from d l (calls_of made))) empty
      (run_from_lem q last made run)

  -- NO WITHDRAWAL: a kind that waits before a call and not after it was delivered by that call
  pub no_withdrawal : (k : Kind) (q r : Queue) (m : Made S) → Promised d q m r → waits k (list_of q) ≡ true → waits k (list_of r) ≡ false
      → (s : S) × (after : S) × (m ≡ delivering s (delivered k) after)
  no_withdrawal k q r (raising j) p w gone =
      absurd (true≢false (sym (subst (λ (l : List Kind). waits k l ≡ true) (sym p) (raise_leaves k j (list_of q) w)) ∙ gone))
  no_withdrawal k q r (delivering s a t) p w gone =
      by (subst (λ (x : Step S). Moved d k (list_of q) (counts d k s) x) (sym p) (moved d k (list_of q) s w))
    where
      by : Moved d k (list_of q) (counts d k s) (step_to a (list_of r) t)
          → (s' : S) × (after : S) × (delivering s a t ≡ delivering s' (delivered k) after)
      by (inl e) = (s, t, ap (λ (x : Answer). delivering s x t) e)
      by (inr stays) = absurd (true≢false (sym stays.0 ∙ gone))
