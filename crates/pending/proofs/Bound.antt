-- The bound of three (02, C-19): "One that waits is delivered at the latest in the third delivery step that finds its mask bit 0, counted
-- from its raising, whatever else is raised." By how many wait before it: a step that counts delivers it or leaves one fewer before it.
-- Assumes nothing.
use mathlib.Core.Path.{◌≡◌, refl, sym, ap, ◌∙◌, subst, subst₂}
use mathlib.Core.Bool.{Bool, true, false, cond, not, ◌&&◌}
use mathlib.Core.List.{List, [], ◌∷◌, ◌++◌}
use mathlib.Core.Logic.{inl, inr}
use Prim.Native.Nat.{ℕ, suc, ◌≤◌, ◌<◌}
use native.Mathlib.Omega.{arith}
use lib.ListN.{length}
use Rattle.bits.specs.Field.{digit}
use Rattle.pending.specs.declared.Kind.{Kind}
use Rattle.pending.specs.declared.Kind.TheVariants.{Abort, Fiq, Irq}
use Rattle.pending.specs.declared.Queue.{Queue}
use Rattle.pending.specs.declared.Queue.TheVariants.{Empty, One, Two, Three}
use Rattle.pending.specs.Plain.{code_of, waits, raised, oldest, behind, chosen}
use Rattle.pending.specs.Reading.{neighbour, list_of}
use Rattle.pending.specs.Step.{Delivery, Answer, delivered, Step, step_to, taken, step_of}
use Rattle.pending.specs.Run.{Made, raising, delivering, Run, counts, counted, DeliveredBy}
use Rattle.pending.proofs.Lists.{raised_waits, raise_leaves, older, older_below, raise_behind}
use Rattle.pending.proofs.Queues.{at_most_three}
use Rattle.pending.proofs.Steps.{step_taken, Moved, moved}

module _ {S : Type 0} (d : Delivery S) where
  -- a call before the others, which adds no more steps that count than the bound does
  later : (m : Made S) {n more : ℕ} {k : Kind} {made : List (Made S)} → DeliveredBy d n k made
      → ((before : List (Made S)) → counted d k before < n → counted d k (m ∷ before) < more) → DeliveredBy d more k (m ∷ made)
  later m found step =
      record {
        before = m ∷ found.before;
        state = found.state;
        after = found.after;
        rest = found.rest;
        there = ap (λ (l : List (Made S)). m ∷ l) found.there;
        fewer = step found.before found.fewer;
      }

  -- one that waits is delivered by the step that counts after as many as wait before it
  waited : (k : Kind) (made : List (Made S)) (q last : Queue) → Run d q made last → waits k (list_of q) ≡ true
      → older k (list_of q) < counted d k made → DeliveredBy d (suc (older k (list_of q))) k made
  waited k [] q last run w enough = absurd (omega arith)
  waited k (raising j ∷ made) q last run w enough =
      let r = run.0 in
      let as-old : older k (list_of r) ≡ older k (list_of q) = ap (older k) run.1 ∙ raise_behind k j (list_of q) w in
      let still : waits k (list_of r) ≡ true = ap (waits k) run.1 ∙ raise_leaves k j (list_of q) w in
      later (raising j) (waited k made r last run.2 still (omega arith)) (λ before fewer. omega arith)
  waited k (delivering s a t ∷ made) q last run w enough =
      by (subst (λ (x : Step S). Moved d k (list_of q) (counts d k s) x) (sym run.1) (moved d k (list_of q) s w))
      (waited k made run.0 last run.2)
    where
      by : Moved d k (list_of q) (counts d k s) (step_to a (list_of run.0) t)
          → (waits k (list_of run.0) ≡ true → older k (list_of run.0) < counted d k made
          → DeliveredBy d (suc (older k (list_of run.0))) k made)
          → DeliveredBy d (suc (older k (list_of q))) k (delivering s a t ∷ made)
      by (inl e) behind =
          record {
            before = [];
            state = s;
            after = t;
            rest = made;
            there = ap (λ (x : Answer). delivering s x t ∷ made) e;
            fewer = omega arith;
          }
      by (inr stays) behind =
          let fewer-left = stays.1 in
          later (delivering s a t) (behind stays.0 (omega arith)) (λ before fewer. omega arith)

  -- THE BOUND: after a raise of k, whatever waited before it and whatever is called after it, a run in which three steps are taken and find
  -- k's mask bit 0 delivers k, at the latest in the third of them
  pub bound : (k : Kind) (q last : Queue) (made : List (Made S)) → Run d q (raising k ∷ made) last → 3 ≤ counted d k made
      → DeliveredBy d 3 k made
  bound k q last made run enough =
      let r = run.0 in
      let waiting : waits k (list_of r) ≡ true = ap (waits k) run.1 ∙ raised_waits k (list_of q) in
      let few : older k (list_of r) < length (list_of r) = older_below k (list_of r) waiting in
      let three = at_most_three r in
      weaker (waited k made r last run.2 waiting (omega arith)) (omega arith)
    where
      weaker : {n : ℕ} → DeliveredBy d n k made → n ≤ 3 → DeliveredBy d 3 k made
      weaker found small =
          record {
            before = found.before;
            state = found.state;
            after = found.after;
            rest = found.rest;
            there = found.there;
            fewer = let f = found.fewer in omega arith;
          }

  -- THREE IS REACHED: where a state is taken and has every mask bit 0, there is a run, with nothing waiting at the start, in which the two
  -- other kinds and then k are raised and three steps made, and k isn't delivered by the second of them
  module _ (s : S) (t : taken d s ≡ true) (unmasked : (k : Kind) → d.mask s k ≡ false) where
    -- a step that delivers a kind
    abbrev delivers : Kind → Made S
    delivers k = delivering s (delivered k) (d.injected s k)

    -- three steps that deliver the kind that was raised last of three in the third
    abbrev pub three_steps : Kind → List (Made S)
    three_steps k = delivers (neighbour k true) ∷ delivers (neighbour k false) ∷ delivers k ∷ []

    open_step : (k : Kind) (l : List Kind) → step_to (delivered k) l (d.injected s k) ≡ step_of d (k ∷ l) s
    open_step k l =
        sym (step_taken d (k ∷ l) s t (ap (λ (b : Bool). cond b (behind k (chosen (d.mask s) l)) (oldest k l)) (unmasked k)))

    three_run : (i j k : Kind) (two three rest : Queue) → list_of two ≡ raised j (i ∷ []) → list_of three ≡ raised k (list_of two)
        → list_of three ≡ (i ∷ j ∷ k ∷ []) → list_of rest ≡ (j ∷ k ∷ [])
        → Run d Empty (raising i ∷ raising j ∷ raising k ∷ delivers i ∷ delivers j ∷ delivers k ∷ []) Empty
    unfolding raised
    three_run i j k two three rest e f g h = (
      One i,
      refl,
      (two, e, (three, f, (rest, first, (One k, second, (Empty, open_step k [], refl))))),
    )
      where
        first : step_to (delivered i) (list_of rest) (d.injected s i) ≡ step_of d (list_of three) s
        first =
            ap (λ (l : List Kind). step_to (delivered i) l (d.injected s i)) h
            ∙ open_step i (j ∷ k ∷ [])
            ∙ ap (λ (l : List Kind). step_of d l s) (sym g)

        second : step_to (delivered j) (k ∷ []) (d.injected s j) ≡ step_of d (list_of rest) s
        second = open_step j (k ∷ []) ∙ ap (λ (l : List Kind). step_of d l s) (sym h)

    pub three_reached : (k : Kind)
        → Run d Empty (raising (neighbour k true) ∷ raising (neighbour k false) ∷ raising k ∷ three_steps k) Empty
    unfolding raised
    three_reached Abort = three_run Fiq Irq Abort (Two Fiq true) (Three Fiq true) (Two Irq true) refl refl refl refl
    three_reached Fiq = three_run Irq Abort Fiq (Two Irq true) (Three Irq true) (Two Abort true) refl refl refl refl
    three_reached Irq = three_run Abort Fiq Irq (Two Abort true) (Three Abort true) (Two Fiq true) refl refl refl refl

    every_step_counts : (k : Kind) → counts d k s ≡ true
    every_step_counts k = ap (λ (b : Bool). b && not (d.mask s k)) t ∙ ap not (unmasked k)

    -- the neighbours are other kinds
    another : (k : Kind) (after : Bool) → neighbour k after ≡ k → ⊥
    another Abort true e = let z = ap code_of e in omega arith
    another Abort false e = let z = ap code_of e in omega arith
    another Fiq true e = let z = ap code_of e in omega arith
    another Fiq false e = let z = ap code_of e in omega arith
    another Irq true e = let z = ap code_of e in omega arith
    another Irq false e = let z = ap code_of e in omega arith

    pub not_by_two : (k : Kind) → DeliveredBy d 2 k (three_steps k) → ⊥
    not_by_two k found = by found.before found.there found.fewer
      where
        by : (before : List (Made S)) → three_steps k ≡ (before ++ (delivering found.state (delivered k) found.after ∷ found.rest))
            → counted d k before < 2 → ⊥
        by [] e few = another k true (cc (e))
        by (a ∷ []) e few = another k false (cc (e))
        by (a ∷ b ∷ before) e few =
            let x : delivers (neighbour k true) ≡ a = cc (e) in
            let y : delivers (neighbour k false) ≡ b = cc (e) in
            let two : counted d k (delivers (neighbour k true) ∷ delivers (neighbour k false) ∷ before) < 2
            = subst₂ (λ (a b : Made S). counted d k (a ∷ b ∷ before) < 2) (sym x) (sym y) few in
            let one : digit (counts d k s) ≡ 1 = ap digit (every_step_counts k) in
            omega arith
