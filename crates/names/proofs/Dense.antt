-- A list of values that is dense, a text for each value below its size, says of every value what its entries say.
-- Assumes nothing.
use mathlib.Core.Path.{◌≡◌, refl, sym, ap, ◌∙◌}
use mathlib.Core.Bool.{Bool, true, ◌&&◌}
use mathlib.Core.List.{List, [], ◌∷◌}
use Prim.Native.Nat.{ℕ, zero, suc, ◌+◌, ◌≤◌, ◌<◌}
use native.Mathlib.Nat.{add-zero, zero-add, add-suc, suc-add, le_of_suc-le-suc, not-suc-le-zero}
use native.Mathlib.Numerals.{add-one}
use native.Mathlib.Decide.{dec_le}
use native.Mathlib.Omega.{arith}
use borrow.Author.Tests.{ne_eqb}
use lib.Dec.{T, ltb, ltb→lt}
use lib.ListN.{get_or, get_or-map}
use Rattle.bits.proofs.Booleans.{both_left, both_right}
use Rattle.names.specs.Name.{Entry, meaning_of}
use Rattle.names.specs.Table.{Source, no_source, sources, lists, label_at, values_at, tabulate, dense_of}

-- every entry's value is below a size
abbrev below : ℕ → List Entry → Bool
below n [] = true
below n (e ∷ es) = ltb e.value n && below n es

tabulated : (n from : ℕ) (rule : ℕ → List ℕ) (v : ℕ) → v < n → get_or (tabulate n from rule) v [] ≡ rule (from + v)
tabulated zero from rule v h = absurd (not-suc-le-zero h)
tabulated (suc n) from rule zero h = ap rule (sym (add-zero from))
tabulated (suc n) from rule (suc v) h =
    tabulated n (suc from) rule v (le_of_suc-le-suc h) ∙ ap rule (suc-add from v ∙ sym (add-suc from v))

past : (n from : ℕ) (rule : ℕ → List ℕ) (v : ℕ) → n ≤ v → get_or (tabulate n from rule) v [] ≡ []
past zero from rule v h = refl
past (suc n) from rule zero h = absurd (not-suc-le-zero h)
past (suc n) from rule (suc v) h = past n (suc from) rule v (le_of_suc-le-suc h)

unsaid : (es : List Entry) (n v : ℕ) → T (below n es) → n ≤ v → meaning_of es v ≡ []
unsaid [] n v t h = refl
unsaid (e ∷ es) n v t h =
    let less = ltb→lt e.value n (both_left (ltb e.value n) (below n es) t) in
    simp (ne_eqb v e.value (λ same. omega arith)) (unsaid es n v (both_right (ltb e.value n) (below n es) t) h)

dense : (s : Source) (v : ℕ) → T (below s.size s.entries) → Dec (s.size ≤ v) → get_or (dense_of s) v [] ≡ meaning_of s.entries v
dense s v t (yes h) = past s.size 0 (meaning_of s.entries) v h ∙ sym (unsaid s.entries s.size v t h)
dense s v t (no h) = tabulated s.size 0 (meaning_of s.entries) v (omega arith) ∙ ap (meaning_of s.entries) (zero-add v)

-- the sizes of all lists have room for their entries
abbrev fits : List Source → Bool
fits [] = true
fits (s ∷ ss) = below s.size s.entries && fits ss

each : (ss : List Source) → T (fits ss) → (m : ℕ) → T (below (get_or ss m no_source).size (get_or ss m no_source).entries)
each [] t m = tt
each (s ∷ ss) t zero = both_left (below s.size s.entries) (fits ss) t
each (s ∷ ss) t (suc m) = each ss (both_right (below s.size s.entries) (fits ss) t) m

all_fit : T (fits sources)
unfolding sources
all_fit = tt

-- what the tables have is what is said
pub label_entry : (n : ℕ) → get_or (get_or lists 0 []) n [] ≡ label_at n
unfolding lists label_at
label_entry n = refl

pub value_entry : (m v : ℕ) → get_or (get_or lists (m + 1) []) v [] ≡ meaning_of (values_at m) v
unfolding lists values_at
value_entry m v =
    rw (add-one m) (ap (λ (l : List (List ℕ)). get_or l v []) (get_or-map dense_of sources m no_source)
    ∙ dense (get_or sources m no_source) v (each sources all_fit m) (dec_le (get_or sources m no_source).size v))
