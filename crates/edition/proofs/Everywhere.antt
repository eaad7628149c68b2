-- Records that every edition has, over any kind of record and any number of editions: the mask of each is that of all, which antt computes.
-- Assumes nothing.
use mathlib.Core.Path.{◌≡◌}
use mathlib.Core.Bool.{Bool, true, ◌&&◌}
use mathlib.Core.List.{List, [], ◌∷◌}
use Prim.Native.Nat.{ℕ, ◌<◌}
use lib.Dec.{T, eqb, eqb→eq}
use Rattle.bits.proofs.Booleans.{both_left, both_right}
use Rattle.edition.specs.Mask.{mask_below}
use Rattle.edition.proofs.Masks.{mask_everywhere}

module _ {R : Type 0} (n : ℕ) (has : ℕ → R → Bool) where
  -- every edition has each of them
  abbrev pub AllHave : List R → Type 0
  AllHave [] = Unit {0}
  AllHave (r ∷ rs) = ((e : ℕ) → e < n → has e r ≡ true) × AllHave rs

  -- the mask of each is that of all editions
  unfoldable pub all_masks : List R → Bool
  all_masks [] = true
  all_masks (r ∷ rs) = eqb (mask_below n (λ e. has e r)) (mask_below n (λ e. true)) && all_masks rs

  pub all_have : (rs : List R) → T (all_masks rs) → AllHave rs
  unfolding all_masks
  all_have [] t = tt
  all_have (r ∷ rs) t = (
    mask_everywhere n (λ e. has e r)
        (eqb→eq (mask_below n (λ e. has e r)) (mask_below n (λ e. true))
        (both_left (eqb (mask_below n (λ e. has e r)) (mask_below n (λ e. true))) (all_masks rs) t)),
    all_have rs (both_right (eqb (mask_below n (λ e. has e r)) (mask_below n (λ e. true))) (all_masks rs) t),
  )
