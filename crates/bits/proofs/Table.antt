-- The table of a rule: what the rule gives at 0, 1 and on. A constant table that computes to it has the rule at each entry.
-- Assumes nothing.
use mathlib.Core.Path.{◌≡◌, ◌∙◌, sym, ap}
use mathlib.Core.List.{List, [], ◌∷◌}
use Prim.Native.Nat.{ℕ, zero, suc, ◌+◌, ◌<◌}
use native.Mathlib.Nat.{add-zero, zero-add, add-suc, suc-add, le_of_suc-le-suc, not-suc-le-zero}
use lib.ListN.{get_or}

-- n entries, the first of which is the rule at `from`
abbrev pub table : ℕ → ℕ → (ℕ → ℕ) → List ℕ
table zero from rule = []
table (suc n) from rule = rule from ∷ table n (suc from) rule

at_entry_from : (n from : ℕ) (rule : ℕ → ℕ) (k : ℕ) → k < n → get_or (table n from rule) k 0 ≡ rule (from + k)
at_entry_from zero from rule k h = absurd (not-suc-le-zero h)
at_entry_from (suc n) from rule zero h = ap rule (sym (add-zero from))
at_entry_from (suc n) from rule (suc k) h =
    at_entry_from n (suc from) rule k (le_of_suc-le-suc h) ∙ ap rule (suc-add from k ∙ sym (add-suc from k))

pub at_entry : (n : ℕ) (rule : ℕ → ℕ) (k : ℕ) → k < n → get_or (table n 0 rule) k 0 ≡ rule k
at_entry n rule k h = at_entry_from n 0 rule k h ∙ ap rule (zero-add k)
