-- The rest of a log after n sections: it starts where the reader comes to, or is empty where the reader stopped before.
-- Assumes nothing.
use mathlib.Core.Logic.{◌⊎◌, inl, inr, ⊎_elim}
use mathlib.Core.Path.{◌≡◌, refl, sym, ap, subst, ◌∙◌}
use mathlib.Core.Bool.{Bool, true, false, ◌&&◌}
use mathlib.Core.List.{List, []}
use Prim.Native.Nat.{ℕ, zero, suc, ◌+◌, ◌-◌, ◌≤◌, ◌<◌}
use native.Mathlib.Nat.{add-zero, zero-add}
use native.Mathlib.Numerals.{add-one}
use native.Mathlib.Omega.{arith}
use borrow.Author.Tests.{leb-false}
use lib.Dec.{leb}
use Rattle.std.specs.Prelude.{Option, Some, None}
use lib.ListN.{length, take, drop, get_or, length-drop, drop_of_length-le}
use lib.Seq.{drop-nil, drop-length, take_all}
use Rattle.log_section.specs.Section.{sizes, end_of, whole_of, after_of, rest_after}
use Rattle.log_section.specs.Look.{section_at, moved_past, skip_from, start_after}
use Rattle.log_section.specs.declared.section.Section.{Section}
use Rattle.log_section.specs.declared.entry.Place.{Place}
use Rattle.log_section.proofs.Found.{not_found}
use Rattle.trap_log.proofs.Given.{rest_at}
use Rattle.log_section.proofs.Places.{place_in, standing, end_in, skip_none}

-- a section that isn't whole ends past the bytes
pub past_end : (size : ℕ) (s : List ℕ) → whole_of size s ≡ false → length s < end_of size s
past_end size s e = go (leb 4 (length s)) (leb (end_of size s) (length s)) refl refl e
  where
    go : (a b : Bool) → leb 4 (length s) ≡ a → leb (end_of size s) (length s) ≡ b → (a && b) ≡ false → length s < end_of size s
    go true b p q f = leb-false (end_of size s) (length s) (q ∙ f)
    go false b p q f = omega (arith, leb-false 4 (length s) p)

nothing_after : (size : ℕ) (s : List ℕ) → whole_of size s ≡ false → after_of size s ≡ []
nothing_after size s e = drop_of_length-le s {i = end_of size s} (omega (arith, past_end size s e))

-- nothing is left of nothing
stays_empty : (s : List ℕ) (n m : ℕ) → rest_after s n ≡ [] → rest_after s (n + m) ≡ []
stays_empty s n zero e = rw add-zero e
stays_empty s n (suc m) e =
    let size = get_or sizes (n + m) 0 in
    let same : n + suc m ≡ suc (n + m) = omega arith in
    rw same (ap (after_of size) (stays_empty s n m e) ∙ drop-nil (end_of size []))

-- where a reader stands that was to move past n sections: there, or before them with nothing left
abbrev Reached : List ℕ → ℕ → Place → Type 0
Reached s n p = ((p.passed ≡ n) × (p.at ≡ start_after s n) × (start_after s n ≤ length s)) ⊎ ((p.passed < n) × (rest_after s n ≡ []))

module _ (s : List ℕ) where
  reaches : (n k : ℕ) → k + n ≤ 4 → start_after s k ≤ length s
      → Reached s (k + n) (skip_from s n record { passed = k; at = start_after s k })
  reaches zero k h w = rw add-zero (inl (refl, refl, w))
  reaches (suc n) k h w = go (λ within. reaches n (suc k) (omega arith) within) (section_at s k (start_after s k)) refl
    where
      go : (start_after s (suc k) ≤ length s
          → Reached s (suc k + n) (skip_from s n record { passed = suc k; at = start_after s (suc k) }))
          → (x : Option Section) → section_at s k (start_after s k) ≡ x
          → Reached s (k + suc n) (skip_from s n (moved_past x record { passed = k; at = start_after s k }))
      go on (Some section) e =
          let st = standing s k (start_after s k) e in
          let next : start_after s k + section.end ≡ start_after s (suc k) =
          ap (λ (m : ℕ). start_after s k + m) (st.here.ends ∙ ap (end_of (get_or sizes k 0)) (sym (rest_at s k))) in
          let same : suc k + n ≡ k + suc n = omega arith in
          let within : start_after s (suc k) ≤ length s = omega (arith, next, end_in s k (start_after s k) st) in
          rw (add-one k, next) (rw same at (on within))
      go on None e =
          let p : Place = record { passed = k; at = start_after s k } in
          let cut = not_found (get_or sizes k 0) (drop (start_after s k) s) (place_in s k (start_after s k) (omega arith) w ∙ e) in
          let empty : rest_after s (suc k) ≡ [] = ap (after_of (get_or sizes k 0)) (rest_at s k) ∙ nothing_after (get_or sizes k 0) _ cut in
          let same : suc k + n ≡ k + suc n = omega arith in
          rw (skip_none s n p e) (inr (omega arith, rw same at (stays_empty s (suc k) n empty)))

  reached : (n : ℕ) → n ≤ 4 → Reached s n (skip_from s n record { passed = 0; at = 0 })
  reached n h = rw zero-add at (reaches n 0 (omega arith) (omega arith))

  -- the two ways to the place of section n + 1
  pub starts_there : (n : ℕ) (p : Place) → n ≤ 4 → p ≡ skip_from s n record { passed = 0; at = 0 } → p.passed ≡ n
      → (p.at ≤ length s) × (drop p.at s ≡ rest_after s n)
  starts_there n p h e same =
      ⊎_elim
      (λ r. (omega (arith, r.1, r.2), ap (λ (at : ℕ). drop at s) r.1 ∙ sym (rest_at s n)))
      (λ r. absurd (omega (arith, r.0)))
      (subst (Reached s n) (sym e) (reached n h))

  pub nothing_left : (n : ℕ) (p : Place) → n ≤ 4 → p ≡ skip_from s n record { passed = 0; at = 0 } → (p.passed ≡ n → ⊥)
      → (length s ≤ length s) × (drop (length s) s ≡ rest_after s n)
  nothing_left n p h e other =
      ⊎_elim
      (λ r. absurd (other r.0))
      (λ r. (omega arith, drop-length s ∙ sym r.1))
      (subst (Reached s n) (sym e) (reached n h))

  -- the part of the log from there on
  pub part_there : (n at : ℕ) → drop at s ≡ rest_after s n → take (length s - at) (drop at s) ≡ rest_after s n
  part_there n at r = take_all (length s - at) (drop at s) (omega (arith, length-drop at s)) ∙ r

-- the entries of each section take some bytes
pub some_size : (n : ℕ) → n < 4 → 0 < get_or sizes n 0
some_size zero h = omega arith
some_size (suc zero) h = omega arith
some_size (suc (suc zero)) h = omega arith
some_size (suc (suc (suc zero))) h = omega arith
some_size (suc (suc (suc (suc n)))) h = absurd (omega arith)
