-- Laws of the registers of a list: how many there are, and one more in its place.
-- Assumes nothing.
use Rattle.std.proofs.Common.{◌≡◌, ℕ, zero, suc, ◌+◌, ◌≤◌, Bool, true, false, cond, List, [], ◌∷◌, ◌++◌, length, set, refl, ap, ◌∙◌, append-nil, le_refl, add-one, arith, length-append}
use Rattle.bits.specs.Field.{bit_of, digit}
use Rattle.bits.proofs.Fields.{digit_below}
use Rattle.a32_access.specs.Transferred.{listed_below, padded}

-- a register put after the others
pub padded_more : (k : ℕ) (l : List ℕ) (v : ℕ) → set (padded k l) (length l) v ≡ padded k (l ++ (v ∷ []))
padded_more zero l v = refl
padded_more (suc k) [] v = refl
padded_more (suc k) (x ∷ xs) v = ap (λ r. x ∷ r) (padded_more k xs v)

module _ (n list : ℕ) where
  next : (b : Bool) → bit_of list n ≡ b → listed_below (n + 1) list ≡ (listed_below n list ++ cond b (n ∷ []) [])
  unfolding listed_below
  next b h = ap (λ (k : ℕ). listed_below k list) (add-one n) ∙ ap (λ (d : Bool). listed_below n list ++ cond d (n ∷ []) []) h

  pub listed_in : bit_of list n ≡ true → listed_below (n + 1) list ≡ (listed_below n list ++ (n ∷ []))
  listed_in = next true

  pub listed_out : bit_of list n ≡ false → listed_below (n + 1) list ≡ listed_below n list
  listed_out h = next false h ∙ append-nil (listed_below n list)

pub length_one_more : (l : List ℕ) (v : ℕ) → length (l ++ (v ∷ [])) ≡ length l + 1
length_one_more l v = length-append l (v ∷ [])

-- how many they are: one more where the bit is set
pub length_next : (n list : ℕ) → length (listed_below (suc n) list) ≡ length (listed_below n list) + digit (bit_of list n)
unfolding listed_below
length_next n list = length-append (listed_below n list) (cond (bit_of list n) (n ∷ []) [])
    ∙ ap (λ (k : ℕ). length (listed_below n list) + k) (one (bit_of list n))
  where
    one : (b : Bool) → length (cond b (n ∷ []) []) ≡ digit b
    one true = refl
    one false = refl

-- there are no more than the numbers below n
pub listed_few : (n list : ℕ) → length (listed_below n list) ≤ n
unfolding listed_below
listed_few zero list = le_refl 0
listed_few (suc n) list = omega (arith, listed_few n list, length_next n list, digit_below (bit_of list n))
