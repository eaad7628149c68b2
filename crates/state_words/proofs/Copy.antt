-- The front of one list over the front of another: one more in its place.
-- Assumes nothing.
use mathlib.Core.Path.{◌≡◌, sym, ◌∙◌, ap}
use mathlib.Core.List.{List, ◌++◌}
use Prim.Native.Nat.{ℕ, suc, ◌+◌, ◌<◌}
use native.Mathlib.Nat.{zero-add}
use native.Mathlib.Numerals.{add-one}
use native.Mathlib.Omega.{arith}
use lib.ListN.{length, get_or, take, drop, set}
use lib.Seq.{paste-suc}

pub one_more : (d s : List ℕ) (n : ℕ) → n < length d → n < length s
    → set (take n s ++ drop n d) n (get_or s n 0) ≡ take (n + 1) s ++ drop (n + 1) d
one_more d s n hd hs =
    ap (λ (k : ℕ). set (take n s ++ drop k d) k (get_or s n 0)) (sym (zero-add n))
    ∙ paste-suc d 0 s n 0 (omega (arith, zero-add n)) hs
    ∙ ap (λ (k : ℕ). take (suc n) s ++ drop k d) (zero-add (suc n))
    ∙ ap (λ (k : ℕ). take k s ++ drop k d) (sym (add-one n))
