-- The section that some bytes begin with.
-- Assumes nothing.
use mathlib.Core.Path.{◌≡◌, refl, sym, ap}
use mathlib.Core.Bool.{Bool, true, false, cond, ◌&&◌}
use mathlib.Core.List.{List}
use Rattle.std.specs.Prelude.{Some, None}
use Prim.Native.Nat.{ℕ, ◌+◌, ◌-◌, ◌≤◌, ◌<◌}
use native.Mathlib.Nat.{le-mul_of_pos_right}
use native.Mathlib.Omega.{arith}
use lib.Dec.{leb}
use lib.ListN.{length, take, drop, length-drop}
use lib.Seq.{take_all}
use borrow.Author.Tests.{leb-true, le-leb, lt-leb}
use Rattle.log_section.specs.Section.{count_of, end_of, whole_of, after_of, section_of}
use Rattle.log_section.specs.declared.section.Section.{Section}

pub both_true : (a b : Bool) → (a && b) ≡ true → (a ≡ true) × (b ≡ true)
both_true true b e = (refl, e)
both_true false b e = let z : ◌≡◌ {A = ℕ} 0 1 = cc in absurd (omega arith)

-- a whole section has its count, and ends within the bytes
pub record Whole (size : ℕ) (s : List ℕ) : Type 0 where
  pub counted : 4 ≤ length s
  pub within : end_of size s ≤ length s

pub whole_is : (size : ℕ) (s : List ℕ) → whole_of size s ≡ true → Whole size s
whole_is size s e =
    let b = both_true (leb 4 (length s)) (leb (end_of size s) (length s)) e in
    record { counted = leb-true 4 (length s) b.0; within = leb-true (end_of size s) (length s) b.1 }

-- what the answer of a section's reader tells of the bytes
pub record Found (size : ℕ) (s : List ℕ) (count end : ℕ) : Type 0 where
  pub test : whole_of size s ≡ true
  pub counts : count ≡ count_of s
  pub ends : end ≡ end_of size s

found_by : (t : Bool) (y : Section) {x : Section} → cond t (Some y) None ≡ Some x → (t ≡ true) × (x ≡ y)
found_by true y p = (refl, cc)
found_by false y p = cc

pub found : (size : ℕ) (s : List ℕ) {x : Section} → section_of size s ≡ Some x → Found size s x.count x.end
found size s p =
    let f = found_by (whole_of size s) (record { count = count_of s; end = end_of size s }) p in
    record { test = f.0; counts = ap (λ (x : Section). x.count) f.1; ends = ap (λ (x : Section). x.end) f.1 }

none_by : (t : Bool) (y : Section) → cond t (Some y) None ≡ None → t ≡ false
none_by true y p = cc
none_by false y p = refl

pub not_found : (size : ℕ) (s : List ℕ) → section_of size s ≡ None → whole_of size s ≡ false
not_found size s p = none_by (whole_of size s) (record { count = count_of s; end = end_of size s }) p

-- the ways to an answer, by the tests on the bytes
pub entries_cut : (size : ℕ) (s : List ℕ) → 4 ≤ length s → length s < end_of size s → None ≡ section_of size s
entries_cut size s h k = sym (simp (le-leb 4 (length s) h, lt-leb (end_of size s) (length s) k))

pub is_found : (size : ℕ) (s : List ℕ) (count end : ℕ) → 4 ≤ length s → count ≡ count_of s → end ≡ end_of size s → end_of size s ≤ length s
    → Some record { count = count; end = end } ≡ section_of size s
is_found size s count end h p q k = rw (p, q) (sym (simp (le-leb 4 (length s) h, le-leb (end_of size s) (length s) k)))

-- a section that was found: the rest of the bytes is what is handed on, and both together are no more than there was
module _ (size : ℕ) (some : 0 < size) (s : List ℕ) {count end : ℕ} (f : Found size s count end) where
  whole : Whole size s
  whole = whole_is size s f.test

  pub ends_within : end ≤ length s
  ends_within = rw f.ends whole.within

  pub handed_on : take (length s - end) (drop end s) ≡ after_of size s
  handed_on = rw f.ends (take_all (length s - end_of size s) (drop (end_of size s) s) (omega (arith, length-drop (end_of size s) s)))

  pub count_within : 4 + count ≤ end
  count_within = rw (f.ends, f.counts) (omega (arith, le-mul_of_pos_right (count_of s) some))

  pub rest_length : length (take (length s - end) (drop end s)) + end ≡ length s
  rest_length = rw handed_on (rw f.ends (omega (arith, length-drop (end_of size s) s, whole.within)))
