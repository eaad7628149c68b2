-- A set of numbers below 64 as one word, whose bit n says whether n is in the set: antt computes both at each of the 64 numbers.
-- Assumes nothing.
use mathlib.Core.Path.{◌≡◌, refl, ◌∙◌, sym, ap}
use mathlib.Core.Bool.{Bool, true, false}
use mathlib.Core.List.{List}
use Prim.Native.Nat.{ℕ, ◌^◌, ◌≤◌}
use native.Mathlib.Omega.{arith}
use borrow.Author.Tests.{ltb-true, ltb-false}
use lib.Dec.{T, eqb, ltb, ltb→lt}
use Rattle.bits.specs.Among.{among}
use Rattle.bits.specs.Field.{bit_of}
use Rattle.bits.proofs.Among.{all, among_all}
use Rattle.bits.proofs.Booleans.{not_true_false}
use Rattle.bits.proofs.Every.{agree, below}
use Rattle.bits.proofs.Powers.{field_out}

module _ (set : ℕ) (fits : T (ltb set (2 ^ 64))) where
  -- the set of the numbers that pass a test, which none from 64 on does
  pub in_set : (test : ℕ → Bool) → ((n : ℕ) → 64 ≤ n → test n ≡ false) → T (agree (bit_of set) test 64) → (n : ℕ) → bit_of set n ≡ test n
  in_set test none same n = go (ltb n 64) refl
    where
      go : (b : Bool) → ltb n 64 ≡ b → bit_of set n ≡ test n
      go true e = below (bit_of set) test 64 same n (ltb-true n 64 e)
      go false e =
          let h = ltb-false n 64 e in
          ap (λ (x : ℕ). eqb x 1) (field_out set n n (ltb→lt set (2 ^ 64) fits) h) ∙ sym (none n h)

  -- the set of a list's numbers
  pub in_list : (ks : List ℕ) → T (all (λ k. ltb k 64) ks) → T (agree (bit_of set) (among ks) 64) → (n : ℕ) → bit_of set n ≡ among ks n
  in_list ks small =
      in_set (among ks) (λ n h. not_true_false (among ks n)
      (λ e. let less = ltb-true n 64 (among_all ks (λ k. ltb k 64) small n e) in omega arith))
