-- How long a name and a meaning can be.
-- Assumes nothing.
use mathlib.Core.Bool.{Bool, true, false, cond, ◌&&◌}
use mathlib.Core.List.{List, [], ◌∷◌}
use Prim.Native.Nat.{ℕ, zero, suc, ◌≤◌}
use native.Mathlib.Omega.{arith}
use lib.Dec.{T, leb, leb→le, eqb}
use lib.ListN.{length, get_or}
use Rattle.bits.proofs.Booleans.{both_left, both_right}
use Rattle.names.specs.Name.{Entry, meaning_of}
use Rattle.names.specs.Table.{Source, no_source, labels, sources, label_at, values_at}

abbrev short_texts : ℕ → List (List ℕ) → Bool
short_texts top [] = true
short_texts top (t ∷ ts) = leb (length t) top && short_texts top ts

each_text : (top : ℕ) (ts : List (List ℕ)) → T (short_texts top ts) → (i : ℕ) → length (get_or ts i []) ≤ top
each_text top [] s i = omega arith
each_text top (t ∷ ts) s zero = leb→le (length t) top (both_left (leb (length t) top) (short_texts top ts) s)
each_text top (t ∷ ts) s (suc i) = each_text top ts (both_right (leb (length t) top) (short_texts top ts) s) i

pub label_length : (n : ℕ) → length (label_at n) ≤ 16
unfolding label_at labels
label_length = each_text 16 labels tt

abbrev short_entries : ℕ → List Entry → Bool
short_entries top [] = true
short_entries top (e ∷ es) = leb (length e.text) top && short_entries top es

each_entry : (top : ℕ) (es : List Entry) → T (short_entries top es) → (v : ℕ) → length (meaning_of es v) ≤ top
each_entry top [] s v = omega arith
each_entry top (e ∷ es) s v =
    go (eqb v e.value) (leb→le (length e.text) top (both_left (leb (length e.text) top) (short_entries top es) s))
    (each_entry top es (both_right (leb (length e.text) top) (short_entries top es) s) v)
  where
    go : (t : Bool) → length e.text ≤ top → length (meaning_of es v) ≤ top → length (cond t e.text (meaning_of es v)) ≤ top
    go true here there = here
    go false here there = there

abbrev short_sources : ℕ → List Source → Bool
short_sources top [] = true
short_sources top (s ∷ ss) = short_entries top s.entries && short_sources top ss

each_source : (top : ℕ) (ss : List Source) → T (short_sources top ss) → (m : ℕ) → T (short_entries top (get_or ss m no_source).entries)
each_source top [] t m = tt
each_source top (s ∷ ss) t zero = both_left (short_entries top s.entries) (short_sources top ss) t
each_source top (s ∷ ss) t (suc m) = each_source top ss (both_right (short_entries top s.entries) (short_sources top ss) t) m

pub meaning_length : (m v : ℕ) → length (meaning_of (values_at m) v) ≤ 128
unfolding values_at sources
meaning_length m v = each_entry 128 (get_or sources m no_source).entries (each_source 128 sources tt m) v
