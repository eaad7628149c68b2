-- How a delivery step ends, over any type of guest state.
-- Assumes nothing.
use mathlib.Core.Path.{◌≡◌, refl, sym, ap, ◌∙◌, subst}
use mathlib.Core.Bool.{Bool, true, false, cond, not, ◌&&◌}
use mathlib.Core.List.{List, ◌∷◌, ◌++◌}
use mathlib.Core.Logic.{◌⊎◌, inl, inr}
use Prim.Native.Nat.{◌+◌, ◌≤◌}
use native.Mathlib.Omega.{arith}
use borrow.Author.Tests.{eqb-true}
use Rattle.bits.specs.Field.{digit}
use Rattle.bits.proofs.Arms.{absurd_answer}
use Rattle.pending.specs.declared.Kind.{Kind}
use Rattle.pending.specs.Plain.{waits, Chosen, none, oldest, chosen}
use Rattle.pending.specs.Step.{Delivery, refused, nothing, delivered, answer_number, Step, step_to, taken, deliver_to, step_of}
use Rattle.pending.specs.Run.{counts}
use Rattle.pending.proofs.Lists.{older, AllMasked, Choosing, none_open, first_open, choosing, Passed, passed}

module _ {S : Type 0} (d : Delivery S) where
  -- a step by its two tests: whether it is taken, and what is chosen
  pub step_refused : (l : List Kind) (s : S) → taken d s ≡ false → step_of d l s ≡ step_to (refused (d.refusal s)) l s
  unfolding step_of
  step_refused l s = ap (λ (b : Bool). cond b (deliver_to d l s (chosen (d.mask s) l)) (step_to (refused (d.refusal s)) l s))

  pub step_taken : (l : List Kind) (s : S) {c : Chosen} → taken d s ≡ true → chosen (d.mask s) l ≡ c → step_of d l s ≡ deliver_to d l s c
  unfolding step_of
  step_taken l s t e =
      ap (λ (b : Bool). cond b (deliver_to d l s (chosen (d.mask s) l)) (step_to (refused (d.refusal s)) l s)) t ∙ ap (deliver_to d l s) e

  -- HOW A STEP ENDS: refused, and nothing moves; taken, with every mask bit of those that wait 1, and nothing moves; or taken, with the
  -- oldest whose mask bit is 0 injected, named and gone from the queue
  pub data Ending (l : List Kind) (s : S) : Type 0 where
    refused_step : taken d s ≡ false → step_of d l s ≡ step_to (refused (d.refusal s)) l s → Ending l s
    none_open_step : taken d s ≡ true → AllMasked (d.mask s) l → step_of d l s ≡ step_to nothing l s → Ending l s
    oldest_open_step : taken d s ≡ true → (before : List Kind) (k : Kind) (rest : List Kind) → l ≡ (before ++ (k ∷ rest))
        → AllMasked (d.mask s) before → d.mask s k ≡ false
        → step_of d l s ≡ step_to (delivered k) (before ++ rest) (d.injected s k) → Ending l s

  pub ending : (l : List Kind) (s : S) → Ending l s
  ending l s = by (taken d s) refl
    where
      open_or_not : taken d s ≡ true → (c : Chosen) → chosen (d.mask s) l ≡ c → Choosing (d.mask s) l c → Ending l s
      open_or_not t c e (none_open all) = none_open_step t all (step_taken l s t e)
      open_or_not t c e (first_open before k rest same all unmasked) =
          oldest_open_step t before k rest same all unmasked (step_taken l s t e)

      by : (b : Bool) → taken d s ≡ b → Ending l s
      by true t = open_or_not t (chosen (d.mask s) l) refl (choosing (d.mask s) l)
      by false f = refused_step f (step_refused l s f)

  -- the answer's number is the state's refusal, whatever waits
  pub step_number_lem : (l : List Kind) (s : S) → answer_number (step_of d l s).answer ≡ d.refusal s
  step_number_lem l s = by (ending l s)
    where
      numbered : (x : Step S) → step_of d l s ≡ x → answer_number (step_of d l s).answer ≡ answer_number x.answer
      numbered x e = ap (λ (x : Step S). answer_number x.answer) e

      by : Ending l s → answer_number (step_of d l s).answer ≡ d.refusal s
      by (refused_step f e) = numbered _ e
      by (none_open_step t all e) = numbered _ e ∙ sym (eqb-true (d.refusal s) 0 t)
      by (oldest_open_step t before k rest same all unmasked e) = numbered _ e ∙ sym (eqb-true (d.refusal s) 0 t)

  -- NOTHING DELIVERED leaves the queue and the state as they came
  pub unmoved : (l : List Kind) (s : S) → ((k : Kind) → (step_of d l s).answer ≡ delivered k → ⊥)
      → ((step_of d l s).waiting ≡ l) × ((step_of d l s).state ≡ s)
  unmoved l s not-delivered = by (ending l s)
    where
      by : Ending l s → ((step_of d l s).waiting ≡ l) × ((step_of d l s).state ≡ s)
      by (refused_step f e) = (ap (λ (x : Step S). x.waiting) e, ap (λ (x : Step S). x.state) e)
      by (none_open_step t all e) = (ap (λ (x : Step S). x.waiting) e, ap (λ (x : Step S). x.state) e)
      by (oldest_open_step t before k rest same all unmasked e) = absurd (not-delivered k (ap (λ (x : Step S). x.answer) e))

  -- the step that delivers a kind counts for it
  pub delivering_counts : (k : Kind) (l : List Kind) (s : S) → (step_of d l s).answer ≡ delivered k → counts d k s ≡ true
  delivering_counts k l s a = by (ending l s)
    where
      by : Ending l s → counts d k s ≡ true
      by (refused_step f e) = absurd_answer (cc (a, ap (λ (x : Step S). x.answer) e))
      by (none_open_step t all e) = absurd_answer (cc (a, ap (λ (x : Step S). x.answer) e))
      by (oldest_open_step t before j rest same all unmasked e) =
          let it : j ≡ k = cc (a, ap (λ (x : Step S). x.answer) e) in
          ap (λ (b : Bool). b && not (d.mask s k)) t ∙ ap not (ap (d.mask s) (sym it) ∙ unmasked)

  -- the step that delivers a kind is taken, and its state is the one after that kind's injection
  pub delivering_injects : (k : Kind) (l : List Kind) (s : S) → (step_of d l s).answer ≡ delivered k
      → (taken d s ≡ true) × ((step_of d l s).state ≡ d.injected s k)
  delivering_injects k l s a = by (ending l s)
    where
      by : Ending l s → (taken d s ≡ true) × ((step_of d l s).state ≡ d.injected s k)
      by (refused_step f e) = absurd_answer (cc (a, ap (λ (x : Step S). x.answer) e))
      by (none_open_step t all e) = absurd_answer (cc (a, ap (λ (x : Step S). x.answer) e))
      by (oldest_open_step t before j rest same all unmasked e) =
          let it : j ≡ k = cc (a, ap (λ (x : Step S). x.answer) e) in
          (t, ap (λ (x : Step S). x.state) e ∙ ap (d.injected s) it)

  -- What a step does to one that waits: it is delivered; or it still waits, and where the step counts for it one fewer waits before it.
  abbrev pub Moved : Kind → List Kind → Bool → Step S → Type 0
  Moved k l counted x = (x.answer ≡ delivered k) ⊎ ((waits k x.waiting ≡ true) × (digit counted + older k x.waiting ≤ older k l))

  pub moved : (k : Kind) (l : List Kind) (s : S) → waits k l ≡ true → Moved k l (counts d k s) (step_of d l s)
  unfolding step_of
  moved k l s w = by (taken d s) (chosen (d.mask s) l) (passed k (d.mask s) l w)
    where
      by : (b : Bool) (c : Chosen) → Passed k (d.mask s) l c
          → Moved k l (b && not (d.mask s k)) (cond b (deliver_to d l s c) (step_to (refused (d.refusal s)) l s))
      by true none m = inr (w, subst (λ (b : Bool). digit (not b) + older k l ≤ older k l) (sym m) (omega arith))
      by true (oldest j left) (inl e) = inl (ap delivered e)
      by true (oldest j left) (inr p) = inr p
      by false c p = inr (w, omega arith)
