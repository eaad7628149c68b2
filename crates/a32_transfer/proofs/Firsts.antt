-- What a rule gives at 0, 1 and on, in an array: one more in its place.
-- Assumes nothing.
use Rattle.std.proofs.Common.{◌≡◌, ℕ, zero, suc, ◌+◌, List, length, set, sym, refl, ap, ◌∙◌, ap₂, add-one}
use Rattle.a32_access.specs.Transferred.{padded}
use Rattle.a32_access.proofs.Lists.{padded_more, length_one_more}
use Rattle.a32_transfer.specs.Giving.{firsts}

pub length_firsts : (rule : ℕ → ℕ) (n : ℕ) → length (firsts rule n) ≡ n
unfolding firsts
length_firsts rule zero = refl
length_firsts rule (suc n) = length_one_more (firsts rule n) (rule n) ∙ ap (λ (k : ℕ). k + 1) (length_firsts rule n) ∙ add-one n

pub one_more : (rule : ℕ → ℕ) (k n : ℕ) {all : List ℕ} {v : ℕ} → all ≡ padded k (firsts rule n) → v ≡ rule n
    → set all n v ≡ padded k (firsts rule (n + 1))
unfolding firsts
one_more rule k n held same =
    ap₂ (λ (l : List ℕ) (x : ℕ). set l n x) held same
    ∙ ap (λ (i : ℕ). set (padded k (firsts rule n)) i (rule n)) (sym (length_firsts rule n))
    ∙ padded_more k (firsts rule n) (rule n)
    ∙ ap (λ (i : ℕ). padded k (firsts rule i)) (sym (add-one n))
