-- The texts and the lists of the tables, by where each starts.
-- Assumes nothing.
use mathlib.Core.Path.{◌≡◌, refl}
use mathlib.Core.List.{List, [], ◌∷◌}
use Prim.Native.Nat.{ℕ, zero, suc, ◌+◌, ◌-◌, ◌≤◌, ◌<◌}
use native.Mathlib.Nat.{le_of_suc-le-suc, not-suc-le-zero}
use native.Mathlib.Numerals.{add-one}
use native.Mathlib.Omega.{arith}
use lib.ListN.{length, take, drop, get_or}
use Rattle.names.specs.Table.{labels, sources, lists, texts, together, starts_from}
use Rattle.names.proofs.Cut.{ends_at, ends_within, cut_at, entry_at_lem}

-- how many there are
texts_many : length texts ≡ 438
unfolding texts lists labels sources
texts_many = refl

bytes_many : length (together texts) ≡ 9643
unfolding texts lists labels sources
bytes_many = refl

pub lists_many : length lists ≡ 39
unfolding lists labels sources
lists_many = refl

module _ (n : ℕ) (h : n < 438) where
  known : n < length texts
  known = rw texts_many h

  pub text_rises : get_or (starts_from 0 texts) n 0 ≤ get_or (starts_from 0 texts) (n + 1) 0
  text_rises = rw add-one (omega (arith, ends_at texts n known))

  pub text_within : get_or (starts_from 0 texts) (n + 1) 0 ≤ 9643
  text_within = rw add-one (rw bytes_many at (ends_within texts n known))

  pub text_cut : take (get_or (starts_from 0 texts) (n + 1) 0 - get_or (starts_from 0 texts) n 0)
      (drop (get_or (starts_from 0 texts) n 0) (together texts))
      ≡ get_or texts n []
  text_cut = rw add-one (cut_at texts n known)

module _ (k : ℕ) (h : k < 39) where
  listed : k < length lists
  listed = rw lists_many h

  pub list_size : get_or (starts_from 0 lists) (k + 1) 0 ≡ get_or (starts_from 0 lists) k 0 + length (get_or lists k [])
  list_size = rw add-one (ends_at lists k listed)

  pub list_within : get_or (starts_from 0 lists) (k + 1) 0 ≤ 438
  unfolding texts
  list_within = rw add-one (rw texts_many at (ends_within lists k listed))

  pub list_entry : (i : ℕ) → i < length (get_or lists k []) → get_or texts (get_or (starts_from 0 lists) k 0 + i) [] ≡ get_or (get_or lists k []) i []
  unfolding texts
  list_entry i less = entry_at_lem lists k i [] listed less

-- past a list's end there is nothing
pub past_end : {A : Type 0} (l : List A) (i : ℕ) (d : A) → length l ≤ i → get_or l i d ≡ d
past_end [] i d h = refl
past_end (x ∷ l) zero d h = absurd (not-suc-le-zero h)
past_end (x ∷ l) (suc i) d h = past_end l i d (le_of_suc-le-suc h)
