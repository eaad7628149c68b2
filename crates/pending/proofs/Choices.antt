-- A choice made of tests one after the other, the oldest first, is the plain queue's: each kind with those that it leaves.
-- Assumes nothing.
use mathlib.Core.Path.{◌≡◌, refl, ap, ap₂, ◌∙◌}
use mathlib.Core.Bool.{Bool, true, false, cond, not}
use mathlib.Core.List.{[], ◌∷◌}
use Rattle.std.specs.Prelude.{Option, Some, None}
use Rattle.std.specs.Option.{option_or}
use Rattle.pending.specs.declared.Kind.{Kind}
use Rattle.pending.specs.declared.Queue.{Queue}
use Rattle.pending.specs.declared.Queue.TheVariants.{Empty, One, Two, Three}
use Rattle.pending.specs.Plain.{Chosen, none, oldest, behind, chosen}
use Rattle.pending.specs.Reading.{neighbour, list_of, choice_of}
use Rattle.pending.proofs.Round.{round}

module _ (mask : Kind → Bool) where
  -- a kind with the queue that it leaves, where its mask bit is 0
  abbrev pub opened : Kind → Queue → Option (Kind × Queue)
  opened k left = cond (mask k) None (Some (k, left))

  pub one_chosen : (a : Kind) → choice_of (opened a Empty) ≡ chosen mask (list_of (One a))
  one_chosen a = by (mask a)
    where
      by : (m : Bool) → choice_of (cond m None (Some (a, Empty))) ≡ cond m none (oldest a [])
      by true = refl
      by false = refl

  pub two_chosen : (a : Kind) (after : Bool) {b : Kind} → b ≡ neighbour a after
      → choice_of (option_or (opened a (One b)) (opened b (One a))) ≡ chosen mask (list_of (Two a after))
  two_chosen a after {b} e = by (mask a) (mask b) ∙ ap (λ (k : Kind). chosen mask (a ∷ k ∷ [])) e
    where
      by : (m n : Bool) → choice_of (option_or (cond m None (Some (a, One b))) (cond n None (Some (b, One a))))
          ≡ cond m (behind a (cond n none (oldest b []))) (oldest a (b ∷ []))
      by true true = refl
      by true false = refl
      by false n = refl

  pub three_chosen : (a : Kind) (after : Bool) {b c : Kind} → b ≡ neighbour a after → c ≡ neighbour a (not after)
      → choice_of (option_or (option_or (opened a (Two b after)) (opened b (Two a (not after)))) (opened c (Two a after)))
      ≡ chosen mask (list_of (Three a after))
  three_chosen a after {b} {c} e f = ap₂ made e f ∙ by (mask (neighbour a after)) (mask (neighbour a (not after))) (mask a)
    where
      made : Kind → Kind → Chosen
      made b c = choice_of (option_or (option_or (opened a (Two b after)) (opened b (Two a (not after)))) (opened c (Two a after)))

      by : (n o m : Bool)
          → choice_of
          (option_or
          (option_or (cond m None (Some (a, Two (neighbour a after) after)))
          (cond n None (Some (neighbour a after, Two a (not after)))))
          (cond o None (Some (neighbour a (not after), Two a after))))
          ≡ cond m
          (behind a
          (cond n (behind (neighbour a after) (cond o none (oldest (neighbour a (not after)) [])))
          (oldest (neighbour a after) (neighbour a (not after) ∷ []))))
          (oldest a (neighbour a after ∷ neighbour a (not after) ∷ []))
      by n o false = ap (λ (k : Kind). oldest a (neighbour a after ∷ k ∷ [])) (round a after)
      by false o true = refl
      by true true true = refl
      by true false true = refl

  -- every queue has a choice that reads as the plain queue's
  pub choice : (q : Queue) → (c : Option (Kind × Queue)) × (choice_of c ≡ chosen mask (list_of q))
  choice Empty = (None, refl)
  choice (One a) = (opened a Empty, one_chosen a)
  choice (Two a after) =
      let b = neighbour a after in
      (option_or (opened a (One b)) (opened b (One a)), two_chosen a after refl)
  choice (Three a after) =
      let b = neighbour a after in
      let c = neighbour a (not after) in
      (option_or (option_or (opened a (Two b after)) (opened b (Two a (not after)))) (opened c (Two a after)), three_chosen a after refl refl)
