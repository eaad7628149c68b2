-- Lists one after the other, cut by where each starts, are the lists.
-- Assumes nothing.
use mathlib.Core.Path.{◌≡◌, refl, sym, ap, ◌∙◌}
use mathlib.Core.List.{List, [], ◌∷◌, ◌++◌, append_assoc}
use Prim.Native.Nat.{ℕ, zero, suc, ◌+◌, ◌-◌, ◌≤◌, ◌<◌}
use native.Mathlib.Nat.{add-zero, le_of_suc-le-suc, not-suc-le-zero}
use native.Mathlib.Omega.{arith}
use lib.ListN.{length, take, drop, get_or, length-append, get_or-append}
use lib.Seq.{take-append_seam, drop-append_seam, get_or-append-add}
use Rattle.names.specs.Table.{together, starts_from}

module _ {A : Type 0} where
  -- what stands before list k
  abbrev before : ℕ → List (List A) → List A
  before k ls = together (take k ls)

  start_from : (ls : List (List A)) (from k : ℕ) → k ≤ length ls → get_or (starts_from from ls) k 0 ≡ from + length (before k ls)
  start_from [] from zero h = sym (add-zero from)
  start_from [] from (suc k) h = absurd (not-suc-le-zero h)
  start_from (l ∷ ls) from zero h = sym (add-zero from)
  start_from (l ∷ ls) from (suc k) h =
      start_from ls (from + length l) k (le_of_suc-le-suc h) ∙ simp length-append (omega arith)

  start_at : (ls : List (List A)) (k : ℕ) → k ≤ length ls → get_or (starts_from 0 ls) k 0 ≡ length (before k ls)
  start_at ls k h = start_from ls 0 k h ∙ omega arith

  -- all of them, around list k
  around : (ls : List (List A)) (k : ℕ) → k < length ls → together ls ≡ before k ls ++ (get_or ls k [] ++ together (drop (suc k) ls))
  around [] k h = absurd (not-suc-le-zero h)
  around (l ∷ ls) zero h = refl
  around (l ∷ ls) (suc k) h =
      ap (λ (rest : List A). l ++ rest) (around ls k (le_of_suc-le-suc h)) ∙ sym (append_assoc l (before k ls) _)

  before_more : (ls : List (List A)) (k : ℕ) → k < length ls → length (before (suc k) ls) ≡ length (before k ls) + length (get_or ls k [])
  before_more [] k h = absurd (not-suc-le-zero h)
  before_more (l ∷ ls) zero h = simp length-append (omega arith)
  before_more (l ∷ ls) (suc k) h = simp length-append (omega (arith, before_more ls k (le_of_suc-le-suc h)))

  -- where list k starts and ends
  pub ends_at : (ls : List (List A)) (k : ℕ) → k < length ls
      → get_or (starts_from 0 ls) (suc k) 0 ≡ get_or (starts_from 0 ls) k 0 + length (get_or ls k [])
  ends_at ls k h =
      start_at ls (suc k) h ∙ before_more ls k h ∙ ap (λ (n : ℕ). n + length (get_or ls k [])) (sym (start_at ls k (omega arith)))

  pub ends_within : (ls : List (List A)) (k : ℕ) → k < length ls → get_or (starts_from 0 ls) (suc k) 0 ≤ length (together ls)
  ends_within ls k h =
      rw (around ls k h) (simp length-append (omega (arith, ends_at ls k h, start_at ls k (omega arith))))

  -- LIST k is what stands between its start and its end
  pub cut_at : (ls : List (List A)) (k : ℕ) → k < length ls
      → take (get_or (starts_from 0 ls) (suc k) 0 - get_or (starts_from 0 ls) k 0) (drop (get_or (starts_from 0 ls) k 0) (together ls))
      ≡ get_or ls k []
  cut_at ls k h =
      let size : get_or (starts_from 0 ls) (suc k) 0 - get_or (starts_from 0 ls) k 0 ≡ length (get_or ls k []) = omega (arith, ends_at ls k h) in
      rw (size, start_at ls k (omega arith), around ls k h, drop-append_seam, take-append_seam)

  -- and entry i of it is entry i after its start
  pub entry_at_lem : (ls : List (List A)) (k i : ℕ) (d : A) → k < length ls → i < length (get_or ls k [])
      → get_or (together ls) (get_or (starts_from 0 ls) k 0 + i) d ≡ get_or (get_or ls k []) i d
  entry_at_lem ls k i d h less =
      rw (start_at ls k (omega arith), around ls k h, get_or-append-add) (get_or-append (get_or ls k []) _ d i less)
