-- A correction as a word: a return takes it back as it takes back the signed correction.
-- Assumes nothing.
use mathlib.Core.Path.{◌≡◌, refl, sym, subst, ap, ◌∙◌}
use mathlib.Core.Bool.{Bool, true, false, cond}
use Prim.Native.Nat.{ℕ, zero, suc, ◌+◌, ◌-◌, ◌%◌, ◌^◌, ◌<◌}
use native.Mathlib.Omega.{arith}
use lib.Dec.{ltb}
use lib.IntN.{ℤ, pos, negsuc, neg_ℤ}
use borrow.Author.Tests.{ltb-true, ltb-false, lt-ltb}
use Rattle.signed.specs.declared.Signed.{Signed}
use Rattle.signed.specs.Signed.{signed, modulo, sum_of, difference_of}
use Rattle.signed.proofs.Sums.{sum_below, sum_back, less}
use Rattle.status.specs.Register.{link_register}
use Rattle.exception.specs.declared.state.Guest.{Guest}
use Rattle.exception.specs.State.{register_in, changed}
use Rattle.resume.specs.Return.{mode_of, saved_of, restored, return_answer, resulting, returned}
use Rattle.guest_calls.specs.Calls.{as_word}

-- a sum goes by the number modulo 2^32
word_sum : (r : ℕ) (c : ℤ) → r < 2 ^ 32 → sum_of r c ≡ (r + sum_of 0 c) % 2 ^ 32
unfolding sum_of
word_sum r (pos n) h = omega arith
word_sum r (negsuc n) h = rw (lt-ltb 0 (suc n) (omega arith)) (go (ltb r (suc n)) refl)
  where
    go : (b : Bool) → ltb r (suc n) ≡ b
        → modulo (cond b (negsuc (suc n - suc r)) (pos (r - suc n))) ≡ (r + (2 ^ 32 - 1 - (suc n - 1) % 2 ^ 32)) % 2 ^ 32
    go true t = let l = ltb-true r (suc n) t in omega arith
    go false t = let l = ltb-false r (suc n) t in omega arith

twice : (c : ℤ) → neg_ℤ (neg_ℤ c) ≡ c
twice (pos zero) = refl
twice (pos (suc n)) = refl
twice (negsuc n) = refl

again : (w : ℕ) (c : ℤ) → w < 2 ^ 32 → sum_of (sum_of w (neg_ℤ c)) c ≡ w
again w c h = subst (λ (d : ℤ). sum_of (sum_of w (neg_ℤ c)) d ≡ w) (twice c) (sum_back w (neg_ℤ c) h)

pub taken_back : (w : ℕ) (c : Signed) → w < 2 ^ 32 → difference_of w (pos (as_word c)) ≡ difference_of w (signed c)
taken_back w c h =
    let r = sum_of w (neg_ℤ (signed c)) in
    sym (less w (as_word c) r (sum_below w (neg_ℤ (signed c)))
    (sym (word_sum r (signed c) (sum_below w (neg_ℤ (signed c)))) ∙ again w (signed c) h))

-- so the return that a call makes with the correction's word is the return with the correction
pub returned_alike : (s : Guest) (c : Signed) → register_in s.regs (link_register (mode_of s)) < 2 ^ 32
    → returned s (Signed.Plus (as_word c)) ≡ returned s c
unfolding returned restored
returned_alike s c h =
    ap (λ (pc : ℕ). record {
      answer = return_answer s;
      state = resulting (return_answer s) s (changed s s.regs pc (saved_of (mode_of s) s.saved) s.saved s.faults);
    })
    (taken_back (register_in s.regs (link_register (mode_of s))) c h)
