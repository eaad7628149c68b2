-- Laws of the sum, over every word: inside the range of 32 bits, past either end of it, and undone.
use Rattle.std.proofs.Common.{◌≡◌, ℕ, zero, suc, ◌+◌, ◌-◌, ◌%◌, ◌^◌, ◌<◌, ◌≤◌, Bool, true, false, cond, ltb, ℤ, pos, negsuc, neg_ℤ, sym, refl, ap, ◌∙◌, arith, ltb-false, ltb-true, le-ltb, lt-ltb}
use Rattle.signed.specs.Signed.{modulo, sum_of}

pub sum_below : (w : ℕ) (c : ℤ) → sum_of w c < 2 ^ 32
unfolding sum_of
sum_below w (pos n) = omega arith
sum_below w (negsuc n) = go (ltb w (suc n))
  where
    go : (b : Bool) → modulo (cond b (negsuc (suc n - suc w)) (pos (w - suc n))) < 2 ^ 32
    go true = omega arith
    go false = omega arith

-- a word plus n: the sum, or what is left of it past the top
pub sum_up : (w n : ℕ) → w + n < 2 ^ 32 → sum_of w (pos n) ≡ w + n
unfolding sum_of
sum_up w n h = omega arith

pub sum_over : (w n : ℕ) → w < 2 ^ 32 → n < 2 ^ 32 → 2 ^ 32 ≤ w + n → sum_of w (pos n) ≡ w + n - 2 ^ 32
unfolding sum_of
sum_over w n h k l = omega arith

-- a word less n, which is not 0: the difference, or what is short of it below 0, counted from the top
pub sum_down : (w n : ℕ) → w < 2 ^ 32 → suc n ≤ w → sum_of w (negsuc n) ≡ w - suc n
unfolding sum_of
sum_down w n h k = rw (le-ltb w (suc n) k) (omega arith)

pub sum_under : (w n : ℕ) → w < suc n → suc n ≤ 2 ^ 32 → sum_of w (negsuc n) ≡ w + 2 ^ 32 - suc n
unfolding sum_of
sum_under w n h k = rw (lt-ltb w (suc n) h) (omega arith)

-- the number taken away again gives the word back
pub sum_back : (w : ℕ) (c : ℤ) → w < 2 ^ 32 → sum_of (sum_of w c) (neg_ℤ c) ≡ w
unfolding sum_of
sum_back w (pos zero) h = omega arith
sum_back w (pos (suc n)) h = go (ltb ((w + suc n) % 2 ^ 32) (suc n)) refl
  where
    go : (b : Bool) → ltb ((w + suc n) % 2 ^ 32) (suc n) ≡ b
        → modulo (cond b (negsuc (suc n - suc ((w + suc n) % 2 ^ 32))) (pos ((w + suc n) % 2 ^ 32 - suc n))) ≡ w
    go true t = let l = ltb-true ((w + suc n) % 2 ^ 32) (suc n) t in omega arith
    go false t = let l = ltb-false ((w + suc n) % 2 ^ 32) (suc n) t in omega arith
sum_back w (negsuc n) h = go (ltb w (suc n)) refl
  where
    go : (b : Bool) → ltb w (suc n) ≡ b → (modulo (cond b (negsuc (suc n - suc w)) (pos (w - suc n))) + suc n) % 2 ^ 32 ≡ w
    go true t = let l = ltb-true w (suc n) t in omega arith
    go false t = let l = ltb-false w (suc n) t in omega arith

-- what gives the word again when n is added is the word less n
pub less : (w n r : ℕ) → r < 2 ^ 32 → (r + n) % 2 ^ 32 ≡ w → r ≡ sum_of w (neg_ℤ (pos n))
unfolding sum_of
less w n r h again = sym (sum_back r (pos n) h) ∙ ap (λ (b : ℕ). sum_of b (neg_ℤ (pos n))) again
