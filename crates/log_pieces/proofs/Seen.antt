-- The mask of the editions seen, by one edition more.
-- Assumes nothing.
use mathlib.Core.Path.{◌≡◌, sym}
use mathlib.Core.Bool.{Bool, true, false}
use mathlib.Core.List.{List}
use Prim.Native.Nat.{ℕ, ◌+◌, ◌*◌, ◌^◌, ◌≤◌, ◌<◌}
use native.Mathlib.Nat.{one-mul, zero-mul, zero-add, add_comm, pow-suc}
use native.Mathlib.Numerals.{add-one}
use native.Mathlib.Omega.{arith}
use borrow.Author.Tests.{eq-eqb, ne_eqb}
use lib.ListN.{length, drop, get_or}
use lib.Seq.{drop-cons, drop-length}
use lib.Pow.{pow_mono}
use Rattle.bits.specs.Among.{among}
use Rattle.edition.specs.Mask.{mask_below}
use Rattle.edition.proofs.Masks.{mask_below_lem}

-- a search that has come to entry i
module _ (editions : List ℕ) (edition : ℕ) where
  pub found_here : (i : ℕ) → i < length editions → get_or editions i 0 ≡ edition → among (drop i editions) edition ≡ true
  found_here i h e = rw (drop-cons editions i 0 h) (simp (eq-eqb edition (get_or editions i 0) (sym e)))

  pub not_here : (i : ℕ) → i < length editions → (get_or editions i 0 ≡ edition → ⊥)
      → among (drop i editions) edition ≡ among (drop (i + 1) editions) edition
  not_here i h n = rw (add-one i, drop-cons editions i 0 h) (simp (ne_eqb edition (get_or editions i 0) (λ e. n (sym e))))

  pub nowhere_left : (i : ℕ) → i ≡ length editions → among (drop i editions) edition ≡ false
  nowhere_left i e = rw (e, drop-length)

-- a mask with one edition more
module _ (test : ℕ → Bool) (n : ℕ) where
  pub mask_more : test n ≡ true → mask_below n test + 2 ^ n ≡ mask_below (n + 1) test
  mask_more t = rw (add-one n) (simp (t, one-mul) (add_comm (mask_below n test) (2 ^ n)))

  pub mask_same_on : test n ≡ false → mask_below n test ≡ mask_below (n + 1) test
  mask_same_on t = rw (add-one n) (simp (t, zero-mul, zero-add))

  pub power_more : 2 ^ n * 2 ≡ 2 ^ (n + 1)
  power_more = rw (add-one n, pow-suc)

  -- sixteen bits are enough for any known edition
  pub power_within : n < 16 → 2 ^ n ≤ 2 ^ 15
  power_within h = pow_mono {i = n} {j = 15} (omega arith)

  pub mask_within : n < 16 → mask_below n test + 2 ^ n < 2 ^ 32
  mask_within h = omega (arith, mask_below_lem n test, power_within h)
