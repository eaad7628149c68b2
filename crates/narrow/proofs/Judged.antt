-- What is left after rules in their order: the editions that pass them all; and there is a number exactly where none is.
-- Assumes nothing.
use mathlib.Core.Path.{◌≡◌, refl, sym, ap, ◌∙◌}
use mathlib.Core.Bool.{Bool, true, false, cond, not, ◌&&◌, and-true, and-false, and_assoc, true≢false}
use mathlib.Core.List.{List, [], ◌∷◌}
use Prim.Native.Nat.{ℕ}
use borrow.Author.Tests.{eqb-true, ne_eqb}
use lib.Bits.{bit_and}
use lib.Dec.{T, eqb}
use Rattle.std.specs.Prelude.{Option, Some, None}
use Rattle.bits.specs.Decide.{Either}
use Rattle.bits.proofs.Booleans.{both_left, both_right, is_true}
use Rattle.edition.specs.Mask.{mask_below}
use Rattle.edition.proofs.Masks.{mask_and, mask_none, mask_same}
use Rattle.narrow.specs.declared.Left.{Left}
use Rattle.narrow.specs.Rule.{Rule, always, by, allows, started, leaving, kept, narrowed, judged}

module _ (n : ℕ) where
  start_mask : (fits : Bool) → (started (mask_below n (λ e. true)) fits).mask ≡ mask_below n (λ e. fits)
  unfolding started
  start_mask true = refl
  start_mask false = sym (mask_none n)

  -- THE MASK: of the editions that were left, those that pass every rule
  judged_mask : (rules : List Rule) (p : ℕ → Bool) (left : Left) → left.mask ≡ mask_below n p
      → (judged (mask_below n) rules left).mask ≡ mask_below n (λ e. p e && allows rules e)
  unfolding kept narrowed
  judged_mask [] p left same = same ∙ mask_same n p (λ e. p e && true) (λ e h. sym (and-true (p e)))
  judged_mask (always number true ∷ rules) p left same = judged_mask rules p left same
  judged_mask (always number false ∷ rules) p left same =
      judged_mask rules (λ e. false) (leaving number 0 left) (sym (mask_none n)) ∙ mask_same n _ _ (λ e h. sym (and-false (p e)))
  judged_mask (by number holds ∷ rules) p left same =
      judged_mask rules (λ e. p e && holds e) (narrowed number (mask_below n holds) left)
      (ap (λ (m : ℕ). bit_and m (mask_below n holds)) same ∙ mask_and n p holds)
      ∙ mask_same n _ _ (λ e h. and_assoc (p e) (holds e) (allows rules e))

  pub fitting_mask : (rules : List Rule) (fits : Bool)
      → (judged (mask_below n) rules (started (mask_below n (λ e. true)) fits)).mask ≡ mask_below n (λ e. fits && allows rules e)
  fitting_mask rules fits = judged_mask rules (λ e. fits) (started (mask_below n (λ e. true)) fits) (start_mask fits)

module _ (kind : ℕ → Bool) where
  -- the numbers of rules are of some kind
  abbrev pub numbered : List Rule → Bool
  numbered [] = true
  numbered (always number holds ∷ rules) = kind number && numbered rules
  numbered (by number holds ∷ rules) = kind number && numbered rules

  -- there is a number, and it is of the kind
  abbrev pub of_kind : Option ℕ → Bool
  of_kind None = false
  of_kind (Some number) = kind number

  -- no edition is left and there is a number, or some are and there is none
  abbrev pub Told : Left → Type 0
  Told left = Either (eqb left.mask 0) (of_kind left.why ≡ true) (left.why ≡ None)

  leaves : (number mask : ℕ) (left : Left) → kind number ≡ true → (eqb left.mask 0 ≡ true → eqb mask 0 ≡ true) → Told left
      → Told (leaving number mask left)
  leaves number mask left known empty told = go (eqb mask 0) (eqb left.mask 0) empty told
    where
      go : (now before : Bool) → (before ≡ true → now ≡ true) → Either before (of_kind left.why ≡ true) (left.why ≡ None)
          → Either now (of_kind (cond (now && not before) (Some number) left.why) ≡ true)
          (cond (now && not before) (Some number) left.why ≡ None)
      go true true e t = t
      go true false e t = known
      go false true e t = absurd (true≢false (sym (e refl)))
      go false false e t = t

  -- THE NUMBER: one of the rules' exactly where no edition is left
  pub judged_told : (n : ℕ) (rules : List Rule) → T (numbered rules) → (left : Left) → Told left → Told (judged (mask_below n) rules left)
  unfolding kept narrowed
  judged_told n [] known left told = told
  judged_told n (always number true ∷ rules) known left told =
      judged_told n rules (both_right (kind number) (numbered rules) known) left told
  judged_told n (always number false ∷ rules) known left told =
      judged_told n rules (both_right (kind number) (numbered rules) known) (leaving number 0 left)
      (leaves number 0 left (is_true (kind number) (both_left (kind number) (numbered rules) known)) (λ e. refl) told)
  judged_told n (by number holds ∷ rules) known left told =
      judged_told n rules (both_right (kind number) (numbered rules) known) (narrowed number (mask_below n holds) left)
      (leaves number (bit_and left.mask (mask_below n holds)) left
      (is_true (kind number) (both_left (kind number) (numbered rules) known))
      (λ e. ap (λ (m : ℕ). eqb (bit_and m (mask_below n holds)) 0) (eqb-true left.mask 0 e)) told)

  -- so where there is none some edition is left, and where some edition is left there is none
  pub some_left : (left : Left) → Told left → left.why ≡ None → left.mask ≡ 0 → ⊥
  some_left left told none empty = true≢false (sym (rw (empty, none) at told))

  pub none_told : (left : Left) → Told left → (left.mask ≡ 0 → ⊥) → left.why ≡ None
  none_told left told some = rw (ne_eqb left.mask 0 some) at told

  pub some_told : (left : Left) → Told left → (left.why ≡ None → ⊥) → of_kind left.why ≡ true
  some_told left told some = go (eqb left.mask 0) told
    where
      go : (b : Bool) → Either b (of_kind left.why ≡ true) (left.why ≡ None) → of_kind left.why ≡ true
      go true t = t
      go false t = absurd (some t)
