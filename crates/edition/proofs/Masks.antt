-- Laws of masks, over every test and every number of editions.
-- Assumes nothing.
use mathlib.Core.Path.{◌≡◌, refl, ◌∙◌, sym, ap, ap₂, subst}
use mathlib.Core.Bool.{Bool, true, false, cond, ◌&&◌, ◌||◌, and-true, and-false}
use mathlib.Core.Logic.{◌⊎◌, inl, inr, ⊎_elim}
use Prim.Native.Nat.{ℕ, zero, suc, ◌+◌, ◌-◌, ◌*◌, ◌/◌, ◌%◌, ◌^◌, ◌≤◌, ◌<◌}
use native.Mathlib.Nat.{zero-mul, eq-or-lt_of_le, le_of_suc-le-suc, le_refl, lt_of_lt_of_le, mul-add-mod_self_right, mod-eq_of_lt}
use native.Mathlib.Nat.{div-eq_of_lt, zero-mod, not-suc-le-zero}
use native.Mathlib.Numerals.{one-add}
use native.Mathlib.Omega.{arith}
use borrow.Author.Tests.{lt-ltb}
use lib.Arith.{digits_lt}
use lib.Bits.{bit_and, and_block}
use lib.Count.{ones, ones_in, ones_cat}
use lib.Dec.{eqb, ltb, lit<}
use lib.Pow.{pow_pos, pow_mono, pow-add, high, field}
use Rattle.bits.specs.Field.{bit_of, digit}
use Rattle.bits.proofs.Powers.{shift_by_way, one_bit}
use Rattle.bits.proofs.Fields.{digit_below, digit_back}
use Rattle.edition.specs.Feature.{editions}
use Rattle.edition.specs.Mask.{mask_below, mask_of, count_below}

digit_and : (a b : Bool) → bit_and (digit a) (digit b) ≡ digit (a && b)
digit_and true true = refl
digit_and true false = refl
digit_and false true = refl
digit_and false false = refl

-- no bit above the editions
pub mask_below_lem : (n : ℕ) (test : ℕ → Bool) → mask_below n test < 2 ^ n
mask_below_lem zero test = lit< tt
mask_below_lem (suc n) test =
    subst (λ (m : ℕ). mask_below (suc n) test < m) (sym (pow-add 2 1 n) ∙ ap (λ (k : ℕ). 2 ^ k) (one-add n))
    (digits_lt (digit_below (test n)) (mask_below_lem n test))

-- two tests that agree below n have the same mask
pub mask_same : (n : ℕ) (p q : ℕ → Bool) → ((e : ℕ) → e < n → p e ≡ q e) → mask_below n p ≡ mask_below n q
mask_same zero p q h = refl
mask_same (suc n) p q h =
    ap₂ (λ (b : Bool) (m : ℕ). digit b * 2 ^ n + m) (h n (le_refl (suc n))) (mask_same n p q (λ e l. h e (omega arith)))

-- `&` of two masks is the mask of both tests
pub mask_and : (n : ℕ) (p q : ℕ → Bool) → bit_and (mask_below n p) (mask_below n q) ≡ mask_below n (λ e. p e && q e)
mask_and zero p q = refl
mask_and (suc n) p q =
    and_block n (digit (p n)) (digit (q n)) (mask_below n p) (mask_below n q) (mask_below_lem n p) (mask_below_lem n q)
    ∙ ap₂ (λ (d m : ℕ). d * 2 ^ n + m) (digit_and (p n) (q n)) (mask_and n p q)

-- no test, no bit
pub mask_none : (n : ℕ) → mask_below n (λ e. false) ≡ 0
mask_none zero = refl
mask_none (suc n) = ap₂ (λ (d m : ℕ). d + m) (zero-mul (2 ^ n)) (mask_none n)

-- a mask that is kept or dropped as a whole
pub mask_when : (n : ℕ) (b : Bool) (p : ℕ → Bool) → cond b (mask_below n p) 0 ≡ mask_below n (λ e. b && p e)
mask_when n true p = refl
mask_when n false p = sym (mask_none n)

-- what stands at bit n leaves the bits below it alone
lower_bit : (d n rest e : ℕ) → e < n → (d * 2 ^ n + rest) / 2 ^ e % 2 ^ 1 ≡ rest / 2 ^ e % 2 ^ 1
lower_bit d n rest e h =
    sym (field (d * 2 ^ n + rest) 1 e)
    ∙ ap (λ (x : ℕ). x / 2 ^ e)
    (ap (λ (x : ℕ). (x + rest) % 2 ^ (1 + e)) (shift_by_way d (omega arith))
    ∙ mul-add-mod_self_right (d * 2 ^ (n - (1 + e))) (2 ^ (1 + e)) rest)
    ∙ field rest 1 e

digit_at : (n : ℕ) (test : ℕ → Bool) (e : ℕ) → e < n → mask_below n test / 2 ^ e % 2 ^ 1 ≡ digit (test e)
digit_at zero test e h = absurd (not-suc-le-zero h)
digit_at (suc n) test e h =
    ⊎_elim
    (λ same. ap (λ (k : ℕ). mask_below (suc n) test / 2 ^ k % 2 ^ 1) same
    ∙ ap (λ (x : ℕ). x % 2 ^ 1) (high (digit (test n)) n (mask_below_lem n test))
    ∙ mod-eq_of_lt (digit_below (test n)) ∙ ap (λ (k : ℕ). digit (test k)) (sym same))
    (λ less. lower_bit (digit (test n)) n (mask_below n test) e less ∙ digit_at n test e less)
    (eq-or-lt_of_le (le_of_suc-le-suc h))

-- bit e of the mask is the test at e
pub mask_bit : (n : ℕ) (test : ℕ → Bool) (e : ℕ) → e < n → bit_of (mask_below n test) e ≡ test e
mask_bit n test e h = ap (λ (x : ℕ). eqb x 1) (one_bit (mask_below n test) e ∙ digit_at n test e h) ∙ digit_back (test e)

-- a number that isn't an edition's has no bit in the mask
pub mask_bit_above : (n : ℕ) (test : ℕ → Bool) (e : ℕ) → n ≤ e → bit_of (mask_below n test) e ≡ false
mask_bit_above n test e h =
    ap (λ (x : ℕ). eqb x 1)
    (one_bit (mask_below n test) e
    ∙ ap (λ (x : ℕ). x % 2 ^ 1) (div-eq_of_lt (lt_of_lt_of_le (mask_below_lem n test) (pow_mono h))) ∙ zero-mod (2 ^ 1))

-- an empty mask holds no edition
pub mask_zero : (n : ℕ) (test : ℕ → Bool) → mask_below n test ≡ 0 → (e : ℕ) → e < n → test e ≡ false
mask_zero n test z e h =
    sym (mask_bit n test e h) ∙ ap (λ (m : ℕ). bit_of m e) z
    ∙ ap (λ (x : ℕ). eqb x 1) (one_bit 0 e ∙ ap (λ (x : ℕ). x % 2 ^ 1) (div-eq_of_lt (pow_pos e)) ∙ zero-mod (2 ^ 1))

-- a mask is empty, or some edition has its bit
pub some_or_none : (n : ℕ) (test : ℕ → Bool) → (mask_below n test ≡ 0) ⊎ ((e : ℕ) × (e < n) × (test e ≡ true))
some_or_none zero test = inl refl
some_or_none (suc n) test = at_top (test n) refl (some_or_none n test)
  where
    at_top : (b : Bool) → test n ≡ b → (mask_below n test ≡ 0) ⊎ ((e : ℕ) × (e < n) × (test e ≡ true))
        → (mask_below (suc n) test ≡ 0) ⊎ ((e : ℕ) × (e < suc n) × (test e ≡ true))
    at_top true same below = inr (n, le_refl (suc n), same)
    at_top false same (inl z) = inl (ap₂ (λ (b : Bool) (m : ℕ). digit b * 2 ^ n + m) same z ∙ ap (λ (x : ℕ). x + 0) (zero-mul (2 ^ n)))
    at_top false same (inr found) = inr (found.0, omega (arith, found.1), found.2)

-- THE NUMBER of refusal 6: the ones of a mask are how many numbers pass
pub mask_ones : (n : ℕ) (test : ℕ → Bool) → ones (mask_below n test) ≡ count_below n test
unfolding ones ones_in
mask_ones zero test = refl
mask_ones (suc n) test = ones_cat n (digit (test n)) (mask_below n test) (mask_below_lem n test) ∙ ap₂ ◌+◌ (one (test n)) (mask_ones n test)
  where
    one : (b : Bool) → ones (digit b) ≡ digit b
    one true = refl
    one false = refl

-- what has the mask of all, holds everywhere
pub mask_everywhere : (n : ℕ) (test : ℕ → Bool) → mask_below n test ≡ mask_below n (λ e. true) → (e : ℕ) → e < n → test e ≡ true
mask_everywhere n test same e h = sym (mask_bit n test e h) ∙ ap (λ (m : ℕ). bit_of m e) same ∙ mask_bit n (λ e. true) e h

-- a test that holds by itself, or else where an edition passes one and a field another
pub mask_either : (n : ℕ) (a b : Bool) (p : ℕ → Bool)
    → mask_below n (λ e. a || p e && b) ≡ cond a (mask_below n (λ e. true)) (cond b (mask_below n p) 0)
mask_either n true b p = refl
mask_either n false true p = mask_same n (λ e. p e && true) p (λ e h. and-true (p e))
mask_either n false false p = mask_same n (λ e. p e && false) (λ e. false) (λ e h. and-false (p e)) ∙ mask_none n

-- a rule of the edition, kept where a test holds, of the n editions alone
pub mask_known : (n : ℕ) (b : Bool) (rule : ℕ → Bool) → cond b (mask_below n rule) 0 ≡ mask_below n (λ e. ltb e n && b && rule e)
mask_known n b rule =
    mask_when n b rule ∙ mask_same n (λ e. b && rule e) (λ e. ltb e n && b && rule e)
    (λ e h. ap (λ (t : Bool). t && b && rule e) (sym (lt-ltb e n h)))

-- the same laws for the masks of the long form's editions
pub both_masks : (p q : ℕ → Bool) → bit_and (mask_of p) (mask_of q) ≡ mask_of (λ e. p e && q e)
unfolding mask_of
both_masks p q = mask_and editions p q

pub either_mask : (a b : Bool) (p : ℕ → Bool) → mask_of (λ e. a || p e && b) ≡ cond a (mask_of (λ e. true)) (cond b (mask_of p) 0)
unfolding mask_of
either_mask = mask_either editions

-- nothing that no edition has is in the mask
pub mask_empty : (n : ℕ) (test : ℕ → Bool) → ((e : ℕ) → test e ≡ false) → 0 ≡ mask_below n test
mask_empty n test none = sym (mask_same n test (λ e. false) (λ e h. none e) ∙ mask_none n)

pub empty_mask : (test : ℕ → Bool) → ((e : ℕ) → test e ≡ false) → 0 ≡ mask_of test
unfolding mask_of
empty_mask = mask_empty editions
