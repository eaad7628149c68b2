-- Every list without repeats is reached by calls, and every list of calls has a run, over any type of guest state.
-- Assumes nothing.
use mathlib.Core.Path.{◌≡◌, refl, sym, ap, ap₂, ◌∙◌}
use mathlib.Core.Bool.{Bool, true, false, not, ◌||◌, true≢false}
use mathlib.Core.List.{List, [], ◌∷◌, ◌++◌, append_assoc, append-nil}
use borrow.Author.Tests.{not-true}
use Rattle.bits.proofs.Booleans.{and_left, and_right}
use Rattle.pending.specs.declared.Kind.{Kind}
use Rattle.pending.specs.declared.Queue.{Queue}
use Rattle.pending.specs.declared.Queue.TheVariants.{Empty}
use Rattle.std.specs.Prelude.{Option, Some, None}
use Rattle.pending.specs.Plain.{same, waits, distinct_kinds, chosen}
use Rattle.pending.specs.Reading.{list_of, choice_of}
use Rattle.pending.specs.Step.{Delivery, refused, nothing, delivered, taken}
use Rattle.pending.specs.Run.{Call, raise, deliver, Made, raising, delivering, call_of, calls_of, last_from, Promised, Run}
use Rattle.pending.proofs.Round.{same_kind, same_self}
use Rattle.pending.proofs.Lists.{raise_adds, waits_behind}
use Rattle.pending.proofs.Queues.{no_repeats, raise_queue}
use Rattle.pending.proofs.Choices.{choice}
use Rattle.pending.proofs.Steps.{step_refused, step_taken}
use Rattle.pending.proofs.Runs.{runs}

-- the kinds of a list raised one after the other
abbrev pub raisings : {S : Type 0} → List Kind → List (Made S)
raisings [] = []
raisings (k ∷ l) = raising k ∷ raisings l

-- where no kind stands twice, one that stands in the list isn't before itself
apart : (k : Kind) (l rest : List Kind) → distinct_kinds (l ++ (k ∷ rest)) ≡ true → waits k l ≡ false
apart k [] rest e = refl
apart k (j ∷ l) rest e =
    by (same k j) refl (apart k l rest (and_right (not (waits j (l ++ (k ∷ rest)))) (distinct_kinds (l ++ (k ∷ rest))) e))
  where
    here : same k j ≡ true → waits j (l ++ (k ∷ rest)) ≡ true
    here t =
        waits_behind j l (k ∷ rest)
        (ap (λ (i : Kind). same j i || waits j rest) (same_kind k j t) ∙ ap (λ (b : Bool). b || waits j rest) (same_self j))

    by : (b : Bool) → same k j ≡ b → waits k l ≡ false → (b || waits k l) ≡ false
    by true t f =
        absurd
        (true≢false
        (sym (here t) ∙ not-true _ (and_left (not (waits j (l ++ (k ∷ rest)))) (distinct_kinds (l ++ (k ∷ rest))) e)))
    by false t f = f

module _ {S : Type 0} (d : Delivery S) where
  raise_all : (q : Queue) (l : List Kind) → distinct_kinds (list_of q ++ l) ≡ true
      → (last : Queue) × Run d q (raisings l) last × (list_of last ≡ (list_of q ++ l))
  raise_all q [] e = (q, refl, sym (append-nil (list_of q)))
  raise_all q (k ∷ l) e =
      let r = raise_queue q k in
      let longer : list_of r.0 ++ l ≡ list_of q ++ (k ∷ l) =
      ap (λ (x : List Kind). x ++ l) (r.1 ∙ raise_adds k (list_of q) (apart k (list_of q) l e)) ∙ append_assoc (list_of q) (k ∷ []) l in
      let rest = raise_all r.0 l (ap distinct_kinds longer ∙ e) in
      (rest.0, (r.0, r.1, rest.1), rest.2 ∙ longer)

  -- EACH LIST WITHOUT REPEATS is some queue's: the one that raising its kinds in turn leaves, with nothing waiting before
  pub reached : (l : List Kind) → distinct_kinds l ≡ true → (last : Queue) × Run d Empty (raisings l) last × (list_of last ≡ l)
  reached = raise_all Empty

  -- a call has an answer and a queue that it leaves, as promised
  abbrev Kept : Queue → Call S → Type 0
  Kept q c = (m : Made S) × (r : Queue) × Promised d q m r × (call_of m ≡ c)

  promised : (q : Queue) (c : Call S) → Kept q c
  promised q (raise k) = let r = raise_queue q k in (raising k, r.0, r.1, refl)
  promised q (deliver s) = by (taken d s) refl (choice (d.mask s) q)
    where
      chosen_one : taken d s ≡ true → (c : Option (Kind × Queue)) → choice_of c ≡ chosen (d.mask s) (list_of q) → Kept q (deliver s)
      chosen_one t None e = (delivering s nothing s, q, sym (step_taken d (list_of q) s t (sym e)), refl)
      chosen_one t (Some (k, r)) e = (delivering s (delivered k) (d.injected s k), r, sym (step_taken d (list_of q) s t (sym e)), refl)

      by : (b : Bool) → taken d s ≡ b → (c : Option (Kind × Queue)) × (choice_of c ≡ chosen (d.mask s) (list_of q)) → Kept q (deliver s)
      by true t c = chosen_one t c.0 c.1
      by false f c = (delivering s (refused (d.refusal s)) s, q, sym (step_refused d (list_of q) s f), refl)

  -- EVERY LIST OF CALLS HAS A RUN
  pub run_of : (q : Queue) (calls : List (Call S)) → (made : List (Made S)) × (last : Queue) × Run d q made last × (calls_of made ≡ calls)
  run_of q [] = ([], q, refl, refl)
  run_of q (c ∷ calls) =
      let first = promised q c in
      let rest = run_of first.1 calls in
      (first.0 ∷ rest.0, rest.1, (first.1, first.2, rest.2), ap₂ (λ (x : Call S) (y : List (Call S)). x ∷ y) first.3 rest.3)

  -- so that the plain queue, too, never has a kind twice
  pub run_distinct : (calls : List (Call S)) → distinct_kinds (last_from d [] calls) ≡ true
  run_distinct calls =
      let found = run_of Empty calls in
      ap (λ (c : List (Call S)). distinct_kinds (last_from d [] c)) (sym found.3)
      ∙ ap distinct_kinds (sym (runs d Empty found.1 found.0 refl found.2).1)
      ∙ no_repeats found.1
