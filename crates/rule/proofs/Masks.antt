-- The mask of the rules of the edition.
-- Assumes nothing.
use mathlib.Core.Path.{◌≡◌, ◌∙◌, sym}
use mathlib.Core.Bool.{Bool, true, false, cond, ◌&&◌}
use Prim.Native.Nat.{ℕ}
use Rattle.edition.specs.Feature.{editions, is_edition}
use Rattle.edition.specs.Mask.{mask_of}
use Rattle.edition.proofs.Masks.{mask_when, mask_known}

-- a rule of the edition, kept where a test of the record holds
pub edition_mask : (b : Bool) (rule : ℕ → Bool) → cond b (mask_of rule) 0 ≡ mask_of (λ e. is_edition e && b && rule e)
unfolding mask_of
edition_mask = mask_known editions

-- the same, of the fields alone
pub field_mask : (b : Bool) (rule : ℕ → Bool) → cond b (mask_of rule) 0 ≡ mask_of (λ e. b && rule e)
unfolding mask_of
field_mask = mask_when editions

-- and of the fields, then kept where a test of the head holds
pub head_mask : (h b : Bool) (rule : ℕ → Bool) → cond h (mask_of (λ e. b && rule e)) 0 ≡ mask_of (λ e. is_edition e && (h && b) && rule e)
head_mask true b rule = sym (field_mask b rule) ∙ edition_mask b rule
head_mask false b rule = edition_mask false rule
