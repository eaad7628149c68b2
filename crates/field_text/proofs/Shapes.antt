-- The rows of every shape are in the table, and so are the tests of every row.
-- Assumes nothing.
use mathlib.Core.Bool.{Bool, true, false, ◌&&◌}
use mathlib.Core.List.{List, [], ◌∷◌}
use Prim.Native.Nat.{ℕ, zero, suc, ◌+◌, ◌≤◌, ◌<◌}
use native.Mathlib.Omega.{arith}
use lib.Dec.{T, leb, leb→le}
use lib.ListN.{get_or}
use Rattle.bits.proofs.Booleans.{both_left, both_right}
use Rattle.field_text.specs.Rows.{shape_firsts, shape_counts, row_tests, row_other_tests}

abbrev within : ℕ → List ℕ → List ℕ → Bool
within top [] [] = true
within top [] (n ∷ ns) = false
within top (f ∷ fs) [] = false
within top (f ∷ fs) (n ∷ ns) = leb (f + n) top && within top fs ns

each_within : (top : ℕ) (fs ns : List ℕ) → T (within top fs ns) → (k : ℕ) → get_or fs k 0 + get_or ns k 0 ≤ top
each_within top [] [] t k = omega arith
each_within top [] (n ∷ ns) t k = absurd t
each_within top (f ∷ fs) [] t k = absurd t
each_within top (f ∷ fs) (n ∷ ns) t zero = leb→le (f + n) top (both_left (leb (f + n) top) (within top fs ns) t)
each_within top (f ∷ fs) (n ∷ ns) t (suc k) = each_within top fs ns (both_right (leb (f + n) top) (within top fs ns) t) k

pub shape_within : (shape : ℕ) → get_or shape_firsts shape 0 + get_or shape_counts shape 0 ≤ 165
unfolding shape_firsts shape_counts
shape_within = each_within 165 shape_firsts shape_counts tt

-- no number of a list passes a limit
abbrev all_up_to : ℕ → List ℕ → Bool
all_up_to top [] = true
all_up_to top (n ∷ ns) = leb n top && all_up_to top ns

pub each_up_to : (top : ℕ) (ns : List ℕ) → T (all_up_to top ns) → (k : ℕ) → get_or ns k 0 ≤ top
each_up_to top [] t k = omega arith
each_up_to top (n ∷ ns) t zero = leb→le n top (both_left (leb n top) (all_up_to top ns) t)
each_up_to top (n ∷ ns) t (suc k) = each_up_to top ns (both_right (leb n top) (all_up_to top ns) t) k

pub test_known : (i : ℕ) → get_or row_tests i 0 < 12
unfolding row_tests
test_known i = omega (arith, each_up_to 11 row_tests tt i)

pub other_known : (i : ℕ) → get_or row_other_tests i 0 < 12
unfolding row_other_tests
other_known i = omega (arith, each_up_to 11 row_other_tests tt i)
