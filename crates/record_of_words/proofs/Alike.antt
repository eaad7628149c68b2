-- Words that are the same below a bound, and flags.
-- Assumes nothing.
use mathlib.Core.Path.{◌≡◌, refl, sym, subst, ◌∙◌, ap₂}
use mathlib.Core.Bool.{Bool, true, false, ◌&&◌}
use mathlib.Core.List.{List}
use Prim.Native.Nat.{ℕ, zero, suc, ◌<◌}
use native.Mathlib.Nat.{not-suc-le-zero}
use native.Mathlib.Omega.{arith}
use lib.Dec.{eqb, ltb}
use lib.ListN.{length, get_or}
use lib.Seq.{ext_get_or}
use borrow.Author.Tests.{ltb-true, ltb-false, eqb-true, eq-eqb}
use Rattle.bits.proofs.Booleans.{and_left, and_right}
use Rattle.record_words.specs.Words.{flag}
use Rattle.record_of_words.specs.Reading.{same_below}

-- what a flag is as a word
pub flag_true : flag true ≡ 1
flag_true = refl

pub flag_false : flag false ≡ 0
flag_false = refl

pub flag_back : (b : Bool) → eqb (flag b) 1 ≡ b
flag_back true = refl
flag_back false = refl

pub same_all : (n : ℕ) (a : List ℕ) → same_below n a a ≡ true
same_all zero a = refl
same_all (suc n) a = ap₂ ◌&&◌ (same_all n a) (eq-eqb (get_or a n 0) (get_or a n 0) refl)

same_at : (n : ℕ) (a b : List ℕ) → same_below n a b ≡ true → (k : ℕ) → k < n → get_or a k 0 ≡ get_or b k 0
same_at zero a b e k h = absurd (not-suc-le-zero h)
same_at (suc n) a b e k h = go (same_at n a b (and_left (same_below n a b) (eqb (get_or a n 0) (get_or b n 0)) e) k) (ltb k n) refl
  where
    last : k ≡ n → get_or a k 0 ≡ get_or b k 0
    last s =
        subst (λ (m : ℕ). get_or a m 0 ≡ get_or b m 0) (sym s)
        (eqb-true (get_or a n 0) (get_or b n 0) (and_right (same_below n a b) (eqb (get_or a n 0) (get_or b n 0)) e))

    go : (k < n → get_or a k 0 ≡ get_or b k 0) → (t : Bool) → ltb k n ≡ t → get_or a k 0 ≡ get_or b k 0
    go before true l = before (ltb-true k n l)
    go before false l = last (let m = ltb-false k n l in omega arith)

-- two lists of n words that are the same are one
pub same_lists : (n : ℕ) (a b : List ℕ) → length a ≡ n → length b ≡ n → same_below n a b ≡ true → a ≡ b
same_lists n a b la lb e = ext_get_or 0 a b (la ∙ sym lb) (λ k h. same_at n a b e k (omega arith))
