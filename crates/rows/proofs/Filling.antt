-- An array of zeros that is filled with a row's words, from a place on, one by one.
-- Assumes nothing.
use mathlib.Core.Path.{◌≡◌, refl, sym, ap, ◌∙◌}
use mathlib.Core.List.{List, ◌++◌, append-nil}
use Prim.Native.Nat.{ℕ, zero, suc, ◌+◌, ◌<◌}
use native.Mathlib.Nat.{zero-add, add-zero}
use native.Mathlib.Numerals.{add-one}
use native.Mathlib.Omega.{arith}
use lib.ListN.{length, get_or, take, drop, set, replicate, length-replicate, drop_of_length-le}
use lib.Seq.{paste-suc, take_all}
use Rattle.rows.specs.declared.row.Row.{Row}
use Rattle.rows.specs.Row.{word_at, words_at}

abbrev pub filled : Row → ℕ → ℕ → ℕ → List ℕ
filled r from n i = take i (words_at r from n) ++ drop i (replicate n 0)

length_words : (r : Row) (from n : ℕ) → length (words_at r from n) ≡ n
length_words r from zero = refl
length_words r from (suc n) = ap suc (length_words r (suc from) n)

word_in_lem : (r : Row) (from n i : ℕ) → i < n → get_or (words_at r from n) i 0 ≡ word_at r (from + i)
word_in_lem r from zero i h = absurd (omega arith)
word_in_lem r from (suc n) zero h = ap (word_at r) (sym (add-zero from))
word_in_lem r from (suc n) (suc i) h = word_in_lem r (suc from) n i (omega arith) ∙ ap (word_at r) (omega arith)

pub one_more : (r : Row) (from n i w : ℕ) {l : List ℕ} → i < n → l ≡ filled r from n i → w ≡ word_at r (from + i)
    → set l i w ≡ filled r from n (i + 1)
one_more r from n i w {l} h e f =
    let s = words_at r from n in
    let d : List ℕ = replicate n 0 in
    let room : length d ≡ n = length-replicate n 0 in
    ap (λ (x : List ℕ). set x i w) e
    ∙ ap (set (filled r from n i) i) (f ∙ sym (word_in_lem r from n i h))
    ∙ ap (λ (k : ℕ). set (take i s ++ drop k d) k (get_or s i 0)) (sym (zero-add i))
    ∙ paste-suc d 0 s i 0 (omega (arith, zero-add i, room)) (omega (arith, length_words r from n))
    ∙ ap (λ (k : ℕ). take (suc i) s ++ drop k d) (zero-add (suc i))
    ∙ ap (λ (k : ℕ). take k s ++ drop k d) (sym (add-one i))

pub whole : (r : Row) (from n : ℕ) → filled r from n n ≡ words_at r from n
whole r from n =
    let d : List ℕ = replicate n 0 in
    let room : length d ≡ n = length-replicate n 0 in
    ap (λ (x : List ℕ). take n (words_at r from n) ++ x) (drop_of_length-le d {i = n} (omega (arith, room)))
    ∙ append-nil (take n (words_at r from n)) ∙ take_all n (words_at r from n) (omega (arith, length_words r from n))
