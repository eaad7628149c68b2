-- The bits of a word that no field of a layout names, as a mask: a word that holds the fields is their word and what stands at those bits.
-- Assumes nothing.
use mathlib.Core.Path.{◌≡◌, refl, ◌∙◌, sym, ap, ap₂, subst}
use mathlib.Core.Bool.{Bool, true, false}
use mathlib.Core.List.{List, [], ◌∷◌}
use Prim.Native.Nat.{ℕ, ◌+◌, ◌-◌, ◌*◌, ◌/◌, ◌%◌, ◌^◌, ◌≤◌, ◌<◌}
use native.Mathlib.Nat.{zero-add, zero-mul, sub-add_cancel, lt_of_lt_of_le, mod-lt, mod-eq_of_lt}
use native.Mathlib.Omega.{arith}
use borrow.Author.Tests.{eqb-true, eqb-false, eq-eqb, ne_eqb}
use lib.Arith.{digits_lt}
use lib.Bits.{bit_and, and_mask, and_block, and_zero_r}
use lib.Dec.{T, eqb}
use lib.Pow.{pow_pos, pow_mono, pow-add, mod-pow-add, ones_lt, split}
use Rattle.bits.specs.Layout.{Field, high_of, low_of, value_of, word_of, ordered}
use Rattle.bits.proofs.Fields.{AllBack, low≤high, high<top, rest_ordered}

-- the bits below `top` that no field names
abbrev pub unnamed : ℕ → List Field → ℕ
unnamed top [] = 2 ^ top - 1
unnamed top (f ∷ fs) = (2 ^ (top - (high_of f + 1)) - 1) * 2 ^ (high_of f + 1) + unnamed (low_of f) fs

-- a word cut at the higher of two bits, by way of the lower
by_way : (w : ℕ) {a b : ℕ} → a ≤ b → w % 2 ^ b ≡ (w / 2 ^ a % 2 ^ (b - a)) * 2 ^ a + w % 2 ^ a
by_way w {a} {b} h = ap (λ (k : ℕ). w % 2 ^ k) (sym (sub-add_cancel h)) ∙ mod-pow-add w (b - a) a

-- a mask of a high and a low part
and_low : (w k : ℕ) {r : ℕ} → r < 2 ^ k → bit_and w r ≡ bit_and (w % 2 ^ k) r
and_low w k {r} h =
    ap₂ bit_and (sym (split w k)) (sym (ap (λ (x : ℕ). x + r) (zero-mul (2 ^ k)) ∙ zero-add r))
    ∙ and_block k (w / 2 ^ k) 0 (w % 2 ^ k) r (mod-lt w (pow_pos k)) h
    ∙ ap (λ (x : ℕ). x * 2 ^ k + bit_and (w % 2 ^ k) r) (and_zero_r (w / 2 ^ k))
    ∙ ap (λ (x : ℕ). x + bit_and (w % 2 ^ k) r) (zero-mul (2 ^ k))
    ∙ zero-add (bit_and (w % 2 ^ k) r)

and_parts : (w j k : ℕ) {r : ℕ} → r < 2 ^ k → bit_and w ((2 ^ j - 1) * 2 ^ k + r) ≡ (w / 2 ^ k % 2 ^ j) * 2 ^ k + bit_and w r
and_parts w j k {r} h =
    ap (λ (x : ℕ). bit_and x ((2 ^ j - 1) * 2 ^ k + r)) (sym (split w k))
    ∙ and_block k (w / 2 ^ k) (2 ^ j - 1) (w % 2 ^ k) r (mod-lt w (pow_pos k)) h
    ∙ ap₂ (λ (x y : ℕ). x * 2 ^ k + y) (and_mask (w / 2 ^ k) j) (sym (and_low w k h))

-- the bits of the first field, in order
module _ (top : ℕ) (f : Field) (fs : List Field) (o : T (ordered top (f ∷ fs))) where
  down : low_of f ≤ high_of f + 1
  down = omega (arith, low≤high top f fs o)

  up : high_of f + 1 ≤ top
  up = omega (arith, high<top top f fs o)

unnamed_below : (top : ℕ) (fs : List Field) → T (ordered top fs) → unnamed top fs < 2 ^ top
unnamed_below top [] o = ones_lt top
unnamed_below top (f ∷ fs) o =
    subst (λ (m : ℕ). unnamed top (f ∷ fs) < m)
    (sym (pow-add 2 (top - (high_of f + 1)) (high_of f + 1)) ∙ ap (λ (k : ℕ). 2 ^ k) (sub-add_cancel (up top f fs o)))
    (digits_lt (ones_lt (top - (high_of f + 1)))
    (lt_of_lt_of_le (unnamed_below (low_of f) fs (rest_ordered top f fs o)) (pow_mono (down top f fs o))))

regroup : (above field fields rest : ℕ) → above + (field + (fields + rest)) ≡ field + fields + (above + rest)
regroup above field fields rest = omega arith

-- THE PARTS OF A WORD that holds the fields
parts : (w top : ℕ) (fs : List Field) → T (ordered top fs) → AllBack w fs → w % 2 ^ top ≡ word_of fs + bit_and w (unnamed top fs)
parts w top [] o b = sym (zero-add (bit_and w (2 ^ top - 1)) ∙ and_mask w top)
parts w top (f ∷ fs) o b =
    let over = (w / 2 ^ (high_of f + 1) % 2 ^ (top - (high_of f + 1))) * 2 ^ (high_of f + 1) in
    let rest = bit_and w (unnamed (low_of f) fs) in
    by_way w (up top f fs o)
    ∙ ap (λ (x : ℕ). over + x)
    (by_way w (down top f fs o)
    ∙ ap₂ (λ (x y : ℕ). x * 2 ^ low_of f + y) b.0 (parts w (low_of f) fs (rest_ordered top f fs o) b.1))
    ∙ regroup over (value_of f * 2 ^ low_of f) (word_of fs) rest
    ∙ ap (λ (x : ℕ). word_of (f ∷ fs) + x)
    (sym (and_parts w (top - (high_of f + 1)) (high_of f + 1)
    (lt_of_lt_of_le (unnamed_below (low_of f) fs (rest_ordered top f fs o)) (pow_mono (down top f fs o)))))

cancelled : (a b c : ℕ) → a + b ≡ a + c → b ≡ c
cancelled a b c h = omega (arith, h)

-- so the fields, with a number beside them, make the word exactly where that number stands at the other bits
pub rest_exactly : (w top : ℕ) (fs : List Field) (v : ℕ) → w < 2 ^ top → T (ordered top fs) → AllBack w fs
    → eqb (bit_and w (unnamed top fs)) v ≡ eqb (word_of fs + v) w
rest_exactly w top fs v h o b = go (eqb rest v) refl
  where
    rest : ℕ
    rest = bit_and w (unnamed top fs)

    whole : w ≡ word_of fs + rest
    whole = sym (mod-eq_of_lt h) ∙ parts w top fs o b

    go : (t : Bool) → eqb rest v ≡ t → eqb rest v ≡ eqb (word_of fs + v) w
    go true e = e ∙ sym (eq-eqb (word_of fs + v) w (ap (λ (x : ℕ). word_of fs + x) (sym (eqb-true rest v e)) ∙ sym whole))
    go false e =
        e ∙ sym (ne_eqb (word_of fs + v) w (λ same. eqb-false rest v e (sym (cancelled (word_of fs) v rest (same ∙ whole)))))
