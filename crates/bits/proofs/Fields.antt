-- Laws of layouts, over every list of fields: what stands at a field's bits of the word is its value, and `|` adds the fields up.
-- Assumes nothing.
use mathlib.Core.Path.{◌≡◌, refl, ◌∙◌, sym, ap, subst}
use mathlib.Core.Bool.{Bool, true, false, ◌&&◌, and-true, and_assoc}
use mathlib.Core.List.{List, [], ◌∷◌}
use Prim.Native.Nat.{ℕ, zero, suc, ◌+◌, ◌-◌, ◌*◌, ◌%◌, ◌^◌, ◌≤◌, ◌<◌}
use native.Mathlib.Nat.{add_assoc, add-mul, add-zero, zero-add, zero-mul, lt_of_lt_of_le, mod-eq_of_lt, sub-add_cancel}
use native.Mathlib.Nat.{le_of_suc-le-suc, not-suc-le-zero}
use native.Mathlib.Omega.{arith}
use lib.Arith.{digits_lt}
use lib.Bits.{bit_or, or_shifted}
use lib.Dec.{T, leb, ltb, eqb, leb→le, ltb→lt, lit<}
use lib.Pow.{pow_pos, pow_mono, pow-add, shl_lt, high, low}
use Rattle.bits.specs.Field.{width_of, field_of, bit_of, digit, placed_of}
use Rattle.bits.specs.Layout.{Field, at, flag_at, high_of, low_of, value_of, word_of, fitting, ordered}
use Rattle.bits.specs.Inner.{joined_from}
use Rattle.bits.proofs.Booleans.{both_left, both_right}
use Rattle.bits.proofs.Powers.{shift_by_way, field_below}

-- what `ordered` and `fitting` say of the first field
module _ (top : ℕ) (f : Field) (fs : List Field) (o : T (ordered top (f ∷ fs))) where
  places : T (leb (low_of f) (high_of f) && ltb (high_of f) top)
  places = both_left (leb (low_of f) (high_of f) && ltb (high_of f) top) (ordered (low_of f) fs) o

  pub low≤high : low_of f ≤ high_of f
  low≤high = leb→le (low_of f) (high_of f) (both_left (leb (low_of f) (high_of f)) (ltb (high_of f) top) places)

  pub high<top : high_of f < top
  high<top = ltb→lt (high_of f) top (both_right (leb (low_of f) (high_of f)) (ltb (high_of f) top) places)

  pub rest_ordered : T (ordered (low_of f) fs)
  rest_ordered = both_right (leb (low_of f) (high_of f) && ltb (high_of f) top) (ordered (low_of f) fs) o

  low≤top : low_of f ≤ top
  low≤top = omega (arith, low≤high, high<top)

  width≤ : width_of (high_of f) (low_of f) ≤ top - low_of f
  width≤ = omega (arith, low≤high, high<top)

pub digit_below : (b : Bool) → digit b < 2
digit_below true = lit< tt
digit_below false = lit< tt

-- the fields tested from the first on, as code tests them: a test of what came before, and then each number
abbrev pub fitting_after : Bool → List Field → Bool
fitting_after before [] = before
fitting_after before (at high low value ∷ fs) = fitting_after (before && ltb value (2 ^ width_of high low)) fs
fitting_after before (flag_at n b ∷ fs) = fitting_after before fs

pub fitting_after_lem : (before : Bool) (fs : List Field) → fitting_after before fs ≡ (before && fitting fs)
fitting_after_lem before [] = sym (and-true before)
fitting_after_lem before (at h l v ∷ fs) =
    fitting_after_lem (before && ltb v (2 ^ width_of h l)) fs ∙ and_assoc before (ltb v (2 ^ width_of h l)) (fitting fs)
fitting_after_lem before (flag_at n b ∷ fs) = fitting_after_lem before fs

value_fits : (f : Field) (fs : List Field) → T (fitting (f ∷ fs)) → value_of f < 2 ^ width_of (high_of f) (low_of f)
value_fits (at h l v) fs t =
    ltb→lt v (2 ^ width_of h l) (both_left (ltb v (2 ^ width_of h l)) (fitting fs) t)
value_fits (flag_at n b) fs t =
    let one : width_of n n ≡ 1 = omega arith in
    subst (λ (k : ℕ). digit b < 2 ^ k) (sym one) (digit_below b)

rest_fits : (f : Field) (fs : List Field) → T (fitting (f ∷ fs)) → T (fitting fs)
rest_fits (at h l v) fs t = both_right (ltb v (2 ^ width_of h l)) (fitting fs) t
rest_fits (flag_at n b) fs t = t

-- a bit says its yes or no again
pub digit_back : (b : Bool) → eqb (digit b) 1 ≡ b
digit_back true = refl
digit_back false = refl

-- a yes or no at a bit of a word
pub flag_back : (w n : ℕ) (b : Bool) → field_of w n n ≡ digit b → bit_of w n ≡ b
flag_back w n b h = ap (λ (d : ℕ). eqb d 1) h ∙ digit_back b

pub flag_at_lem : (w n : ℕ) → field_of w n n ≡ digit (bit_of w n)
flag_at_lem w n = go (field_of w n n) (field_below w n n 1 (omega arith))
  where
    go : (d : ℕ) → d < 2 ^ 1 → d ≡ digit (eqb d 1)
    go zero h = refl
    go (suc zero) h = refl
    go (suc (suc d)) h = absurd (not-suc-le-zero (le_of_suc-le-suc (le_of_suc-le-suc h)))

-- a value at its bits stays below the top
value_below : (top : ℕ) (f : Field) (fs : List Field) → T (ordered top (f ∷ fs)) → T (fitting (f ∷ fs)) → value_of f < 2 ^ (top - low_of f)
value_below top f fs o t = lt_of_lt_of_le (value_fits f fs t) (pow_mono (width≤ top f fs o))

-- the word of fields below a bit is below that power of two
pub word_below : (top : ℕ) (fs : List Field) → T (ordered top fs) → T (fitting fs) → word_of fs < 2 ^ top
word_below top [] o t = pow_pos top
word_below top (f ∷ fs) o t =
    subst (λ (m : ℕ). word_of (f ∷ fs) < m)
    (sym (pow-add 2 (top - low_of f) (low_of f)) ∙ ap (λ (k : ℕ). 2 ^ k) (omega (arith, low≤top top f fs o)))
    (digits_lt (value_below top f fs o t) (word_below (low_of f) fs (rest_ordered top f fs o) (rest_fits f fs t)))

-- what lies above the first field joins it, seen from the fields below
regroup : (top above : ℕ) (f : Field) (fs : List Field) → low_of f ≤ top
    → above * 2 ^ top + word_of (f ∷ fs) ≡ (above * 2 ^ (top - low_of f) + value_of f) * 2 ^ low_of f + word_of fs
regroup top above f fs h =
    ap (λ (x : ℕ). x + word_of (f ∷ fs)) (shift_by_way above h)
    ∙ sym (add_assoc (above * 2 ^ (top - low_of f) * 2 ^ low_of f) (value_of f * 2 ^ low_of f) (word_of fs))
    ∙ ap (λ (x : ℕ). x + word_of fs) (sym (add-mul (above * 2 ^ (top - low_of f)) (value_of f) (2 ^ low_of f)))

-- each field's bits of a word hold its value
abbrev pub AllBack : ℕ → List Field → Type 0
AllBack word [] = Unit {0}
AllBack word (f ∷ fs) = (field_of word (high_of f) (low_of f) ≡ value_of f) × AllBack word fs

first_back : (above width : ℕ) (f : Field) (rest : ℕ) → width_of (high_of f) (low_of f) ≤ width → value_of f < 2 ^ width_of (high_of f) (low_of f)
    → rest < 2 ^ low_of f → field_of ((above * 2 ^ width + value_of f) * 2 ^ low_of f + rest) (high_of f) (low_of f) ≡ value_of f
first_back above width f rest hw hv hr =
    ap (λ (x : ℕ). x % 2 ^ width_of (high_of f) (low_of f)) (high (above * 2 ^ width + value_of f) (low_of f) hr)
    ∙ ap (λ (x : ℕ). (x + value_of f) % 2 ^ width_of (high_of f) (low_of f)) (shift_by_way above hw)
    ∙ low (above * 2 ^ (width - width_of (high_of f) (low_of f))) (width_of (high_of f) (low_of f)) hv

back_from_lem : (top above : ℕ) (fs : List Field) → T (ordered top fs) → T (fitting fs) → AllBack (above * 2 ^ top + word_of fs) fs
back_from_lem top above [] o t = tt
back_from_lem top above (f ∷ fs) o t =
    let rest = word_below (low_of f) fs (rest_ordered top f fs o) (rest_fits f fs t) in
    let same = regroup top above f fs (low≤top top f fs o) in (
      ap (λ (w : ℕ). field_of w (high_of f) (low_of f)) same
          ∙ first_back above (top - low_of f) f (word_of fs) (width≤ top f fs o) (value_fits f fs t) rest,
      subst (λ (w : ℕ). AllBack w fs) (sym same)
          (back_from_lem (low_of f) (above * 2 ^ (top - low_of f) + value_of f) fs (rest_ordered top f fs o) (rest_fits f fs t)),
    )

-- THE ROUND TRIP of layouts: taking the word of the fields apart gives the fields' values
pub all_back : (top : ℕ) (fs : List Field) → T (ordered top fs) → T (fitting fs) → AllBack (word_of fs) fs
all_back top fs o t = subst (λ (w : ℕ). AllBack w fs) (ap (λ (x : ℕ). x + word_of fs) (zero-mul (2 ^ top)) ∙ zero-add (word_of fs))
    (back_from_lem top 0 fs o t)

-- a field at its bits, below the top and within 64 bits
module _ (top : ℕ) (f : Field) (fs : List Field) where
  placed_below : T (ordered top (f ∷ fs)) → T (fitting (f ∷ fs)) → value_of f * 2 ^ low_of f < 2 ^ top
  placed_below o t =
      subst (λ (k : ℕ). value_of f * 2 ^ low_of f < 2 ^ k) (sub-add_cancel (low≤top top f fs o))
      (shl_lt (top - low_of f) (low_of f) (value_below top f fs o t))

  placed_fits : top ≤ 64 → T (ordered top (f ∷ fs)) → T (fitting (f ∷ fs))
      → placed_of (value_of f) (high_of f) (low_of f) ≡ value_of f * 2 ^ low_of f
  placed_fits h o t =
      ap (λ (v : ℕ). v * 2 ^ low_of f % 2 ^ 64) (mod-eq_of_lt (value_fits f fs t))
      ∙ mod-eq_of_lt (lt_of_lt_of_le (placed_below o t) (pow_mono h))

-- within 64 bits `|` of the fields is their word
joined_from_lem : (top above : ℕ) (fs : List Field) → top ≤ 64 → T (ordered top fs) → T (fitting fs)
    → joined_from (above * 2 ^ top) fs ≡ above * 2 ^ top + word_of fs
joined_from_lem top above [] h o t = sym (add-zero (above * 2 ^ top))
joined_from_lem top above (f ∷ fs) h o t =
    ap (λ (w : ℕ). joined_from w fs)
    (ap (bit_or (above * 2 ^ top)) (placed_fits top f fs h o t)
    ∙ or_shifted above top (value_of f * 2 ^ low_of f) (placed_below top f fs o t)
    ∙ ap (λ (x : ℕ). x + value_of f * 2 ^ low_of f) (shift_by_way above (low≤top top f fs o))
    ∙ sym (add-mul (above * 2 ^ (top - low_of f)) (value_of f) (2 ^ low_of f)))
    ∙ joined_from_lem (low_of f) (above * 2 ^ (top - low_of f) + value_of f) fs (omega (arith, low≤top top f fs o)) (rest_ordered top f fs o)
    (rest_fits f fs t)
    ∙ sym (regroup top above f fs (low≤top top f fs o))

-- the fields put together by `|`, from nothing, are their word
pub joined_word : (top : ℕ) (fs : List Field) → top ≤ 64 → T (ordered top fs) → T (fitting fs) → joined_from 0 fs ≡ word_of fs
joined_word top fs h o t =
    ap (λ (x : ℕ). joined_from x fs) (sym (zero-mul (2 ^ top))) ∙ joined_from_lem top 0 fs h o t
    ∙ ap (λ (x : ℕ). x + word_of fs) (zero-mul (2 ^ top)) ∙ zero-add (word_of fs)
