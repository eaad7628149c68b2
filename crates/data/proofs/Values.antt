-- Laws of what passes: reversed twice it is what it was, and extension keeps the low bits. Over every value and every SAS.
use mathlib.Core.Path.{◌≡◌, ◌∙◌}
use mathlib.Core.Bool.{Bool, true, false, ◌&&◌, cond}
use Prim.Native.Nat.{ℕ, ◌+◌, ◌*◌, ◌^◌, ◌<◌}
use native.Mathlib.Omega.{arith}
use lib.Dec.{eqb}
use Rattle.bits.specs.Field.{field_of}
use Rattle.data.specs.Data.{cut_to, reversed, sign_of, extended}

-- a byte, a halfword and a word, by their bytes, the lowest first
module _ (a b c d : ℕ) (ha : a < 256) (hb : b < 256) (hc : c < 256) (hd : d < 256) where
  abbrev half_word : ℕ
  half_word = a * 2 ^ 8 + b

  half_digits : (field_of half_word 7 0 ≡ b) × (field_of half_word 15 8 ≡ a)
  half_digits = (omega arith, omega arith)

  abbrev whole_word : ℕ
  whole_word = a * 2 ^ 24 + b * 2 ^ 16 + c * 2 ^ 8 + d

  word_digits : (field_of whole_word 7 0 ≡ d) × (field_of whole_word 15 8 ≡ c) × (field_of whole_word 23 16 ≡ b)
      × (field_of whole_word 31 24 ≡ a)
  word_digits = (omega arith, omega arith, omega arith, omega arith)

-- a number's low 16 and 32 bits are their bytes
half_bytes : (v : ℕ) → field_of v 15 8 * 2 ^ 8 + field_of v 7 0 ≡ field_of v 15 0
half_bytes v = omega arith

word_halves : (v : ℕ) → field_of v 31 16 * 2 ^ 16 + field_of v 15 0 ≡ field_of v 31 0
word_halves v = omega arith

upper_bytes : (v : ℕ) → field_of v 31 24 * 2 ^ 8 + field_of v 23 16 ≡ field_of v 31 16
upper_bytes v = omega arith

word_bytes : (v : ℕ) → field_of v 31 24 * 2 ^ 24 + field_of v 23 16 * 2 ^ 16 + field_of v 15 8 * 2 ^ 8 + field_of v 7 0 ≡ field_of v 31 0
word_bytes v = regroup (field_of v 31 24) (field_of v 23 16) (field_of v 15 8) (field_of v 7 0) (upper_bytes v) (half_bytes v) ∙ word_halves v
  where
    regroup : (a b c d : ℕ) {h l : ℕ} → a * 2 ^ 8 + b ≡ h → c * 2 ^ 8 + d ≡ l → a * 2 ^ 24 + b * 2 ^ 16 + c * 2 ^ 8 + d ≡ h * 2 ^ 16 + l
    regroup a b c d p q = omega arith

back_half : (v : ℕ) → let x = field_of v 7 0 * 2 ^ 8 + field_of v 15 8 in field_of x 7 0 * 2 ^ 8 + field_of x 15 8 ≡ field_of v 15 0
back_half v =
    let d = half_digits (field_of v 7 0) (field_of v 15 8) 0 0 (omega arith) (omega arith) (omega arith) (omega arith) in
    join d.0 d.1 ∙ half_bytes v
  where
    join : {p q p' q' : ℕ} → p ≡ p' → q ≡ q' → p * 2 ^ 8 + q ≡ p' * 2 ^ 8 + q'
    join e f = omega arith

back_word : (v : ℕ) → let x = field_of v 7 0 * 2 ^ 24 + field_of v 15 8 * 2 ^ 16 + field_of v 23 16 * 2 ^ 8 + field_of v 31 24 in
    field_of x 7 0 * 2 ^ 24 + field_of x 15 8 * 2 ^ 16 + field_of x 23 16 * 2 ^ 8 + field_of x 31 24 ≡ field_of v 31 0
back_word v =
    let d = word_digits (field_of v 7 0) (field_of v 15 8) (field_of v 23 16) (field_of v 31 24) (omega arith) (omega arith) (omega arith)
    (omega arith) in
    join d.0 d.1 d.2 d.3 ∙ word_bytes v
  where
    join : {p q r s p' q' r' s' : ℕ} → p ≡ p' → q ≡ q' → r ≡ r' → s ≡ s'
        → p * 2 ^ 24 + q * 2 ^ 16 + r * 2 ^ 8 + s ≡ p' * 2 ^ 24 + q' * 2 ^ 16 + r' * 2 ^ 8 + s'
    join e f g h = omega arith

-- the bytes in reverse, and the low bits, by the two tests of SAS
abbrev by : Bool → Bool → ℕ → ℕ
by b h x = cond b (field_of x 7 0) (cond h (field_of x 7 0 * 2 ^ 8 + field_of x 15 8)
    (field_of x 7 0 * 2 ^ 24 + field_of x 15 8 * 2 ^ 16 + field_of x 23 16 * 2 ^ 8 + field_of x 31 24))

abbrev low : Bool → Bool → ℕ → ℕ
low b h x = cond b (field_of x 7 0) (cond h (field_of x 15 0) (field_of x 31 0))

-- REVERSAL TWICE is the value again, cut to its size
pub reversed_twice : (sas v : ℕ) → reversed sas (reversed sas v) ≡ cut_to sas v
unfolding reversed cut_to
reversed_twice sas v = go (eqb sas 0) (eqb sas 1)
  where
    go : (b h : Bool) → by b h (by b h v) ≡ cond b (field_of v 7 0) (cond h (field_of v 15 0) (field_of v 31 0))
    go true h = omega arith
    go false true = back_half v
    go false false = back_word v

-- EXTENSION keeps the low bits
pub extension_keeps : (sas : ℕ) (sse : Bool) (v : ℕ) → cut_to sas (extended sas sse v) ≡ cut_to sas v
unfolding cut_to
extension_keeps sas sse v = go (eqb sas 0) (eqb sas 1) (sse && sign_of sas v)
  where
    go : (b h s : Bool) → low b h (cond s (cond b 0xFFFF_FF00 (cond h 0xFFFF_0000 0) + low b h v) (low b h v)) ≡ low b h v
    go true h true = omega arith
    go true h false = omega arith
    go false true true = omega arith
    go false true false = omega arith
    go false false true = omega arith
    go false false false = omega arith
