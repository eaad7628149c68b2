-- NO OTHER BIT: a bit in which no field stands is 0 in the fields' word, over every layout.
-- Assumes nothing.
use mathlib.Core.Path.{◌≡◌, refl, ◌∙◌, sym, ap}
use mathlib.Core.Bool.{Bool, true, false, ◌&&◌, ◌||◌, true≢false}
use mathlib.Core.List.{List, [], ◌∷◌}
use Prim.Native.Nat.{ℕ, ◌+◌, ◌-◌, ◌*◌, ◌/◌, ◌%◌, ◌^◌, ◌<◌}
use native.Mathlib.Nat.{zero-mod, div-eq_of_lt, mul-add-mod_self_right}
use native.Mathlib.Omega.{arith}
use lib.Dec.{T, leb, ltb, lt→ltb}
use lib.Pow.{pow_pos, field}
use borrow.Author.Tests.{ltb-true, ltb-false, leb-false}
use Rattle.bits.specs.Field.{width_of, field_of, bit_of}
use Rattle.bits.specs.Layout.{Field, at, flag_at, high_of, low_of, value_of, word_of, fitting, ordered}
use Rattle.bits.proofs.Booleans.{both_left, both_right, either_false}
use Rattle.bits.proofs.Powers.{shift_by_way}
use Rattle.bits.proofs.Fields.{word_below, flag_back}
use Rattle.layout.specs.Explained.{explained}

-- a word below a bit hasn't that bit
under_bit : (w n : ℕ) → w < 2 ^ n → field_of w n n ≡ 0
under_bit w n h = ap (λ (x : ℕ). x % 2 ^ width_of n n) (div-eq_of_lt h) ∙ zero-mod (2 ^ width_of n n)

-- a bit is what stands above n bits, of the lowest n + 1
bit_cut : (w n : ℕ) → field_of w n n ≡ w % 2 ^ (1 + n) / 2 ^ n
bit_cut w n = let one : width_of n n ≡ 1 = omega arith in ap (λ (k : ℕ). w / 2 ^ n % 2 ^ k) one ∙ sym (field w 1 n)

-- a field above a bit leaves it as it is
above_bit : (v rest l n : ℕ) → n < l → field_of (v * 2 ^ l + rest) n n ≡ field_of rest n n
above_bit v rest l n h =
    bit_cut (v * 2 ^ l + rest) n
    ∙ ap (λ (x : ℕ). (x + rest) % 2 ^ (1 + n) / 2 ^ n) (shift_by_way v (omega (arith, h)))
    ∙ ap (λ (x : ℕ). x / 2 ^ n) (mul-add-mod_self_right (v * 2 ^ (l - (1 + n))) (2 ^ (1 + n)) rest)
    ∙ sym (bit_cut rest n)

rest_fits : (f : Field) (fs : List Field) → T (fitting (f ∷ fs)) → T (fitting fs)
rest_fits (at h l v) fs t = both_right (ltb v (2 ^ width_of h l)) (fitting fs) t
rest_fits (flag_at n b) fs t = t

both : (a b : Bool) → T a → T b → T (a && b)
both true b x y = y
both false b x y = x

neither : (a b : Bool) → (a || b) ≡ false → b ≡ false
neither true b e = absurd (true≢false e)
neither false b e = e

module _ (n : ℕ) (f : Field) where
  -- fields in order stand below every bit above the first
  below : (top : ℕ) (fs : List Field) → T (ordered top (f ∷ fs)) → high_of f < n → T (ordered n (f ∷ fs))
  below top fs o h =
      let placed = leb (low_of f) (high_of f) in
      both (placed && ltb (high_of f) n) (ordered (low_of f) fs)
      (both placed (ltb (high_of f) n)
      (both_left placed (ltb (high_of f) top) (both_left (placed && ltb (high_of f) top) (ordered (low_of f) fs) o))
      (lt→ltb (high_of f) n h))
      (both_right (placed && ltb (high_of f) top) (ordered (low_of f) fs) o)

  -- a field that neither stands below a bit nor in it stands above it
  above : ltb (high_of f) n ≡ false → (leb (low_of f) n && leb n (high_of f)) ≡ false → n < low_of f
  above h out = by (leb (low_of f) n) refl
    where
      by : (b : Bool) → leb (low_of f) n ≡ b → n < low_of f
      by true is =
          let over : leb n (high_of f) ≡ false = ap (λ (b : Bool). b && leb n (high_of f)) (sym is) ∙ out in
          omega (arith, ltb-false (high_of f) n h, leb-false n (high_of f) over)
      by false is = leb-false (low_of f) n is

-- the first field, and what is known of those below it
first_clear : (top n : ℕ) (f : Field) (fs : List Field) → T (ordered top (f ∷ fs)) → T (fitting (f ∷ fs))
    → (leb (low_of f) n && leb n (high_of f)) ≡ false → field_of (word_of fs) n n ≡ 0 → field_of (word_of (f ∷ fs)) n n ≡ 0
first_clear top n f fs o t out rest = by (ltb (high_of f) n) refl
  where
    by : (b : Bool) → ltb (high_of f) n ≡ b → field_of (word_of (f ∷ fs)) n n ≡ 0
    by true is = under_bit (word_of (f ∷ fs)) n (word_below n (f ∷ fs) (below n f top fs o (ltb-true (high_of f) n is)) t)
    by false is = above_bit (value_of f) (word_of fs) (low_of f) n (above n f is out) ∙ rest

clear : (top n : ℕ) (fs : List Field) → T (ordered top fs) → T (fitting fs) → explained n fs ≡ false → field_of (word_of fs) n n ≡ 0
clear top n [] o t out = under_bit 0 n (pow_pos n)
clear top n (f ∷ fs) o t out =
    let stands = leb (low_of f) n && leb n (high_of f) in
    first_clear top n f fs o t (either_false stands (explained n fs) out)
    (clear (low_of f) n fs (both_right (leb (low_of f) (high_of f) && ltb (high_of f) top) (ordered (low_of f) fs) o) (rest_fits f fs t)
    (neither stands (explained n fs) out))

pub unexplained_clear : (top n : ℕ) (fs : List Field) → T (ordered top fs) → T (fitting fs) → explained n fs ≡ false
    → bit_of (word_of fs) n ≡ false
unexplained_clear top n fs o t out = flag_back (word_of fs) n false (clear top n fs o t out)
