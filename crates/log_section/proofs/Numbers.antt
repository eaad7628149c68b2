-- Little-endian numbers: the bytes of a number make it again, and bytes are those of their number.
-- Assumes nothing.
use mathlib.Core.Path.{◌≡◌, refl, ap, ◌∙◌}
use mathlib.Core.List.{List, [], ◌∷◌, ◌++◌}
use Prim.Native.Nat.{ℕ, zero, suc, ◌+◌, ◌*◌, ◌/◌, ◌%◌, ◌^◌, ◌≤◌, ◌<◌}
use native.Mathlib.Nat.{zero-add, one-mul, mul_assoc, pow-zero, pow-suc, pow-succ', div-lt_iff_lt-mul}
use native.Mathlib.Numerals.{add-one}
use native.Mathlib.Omega.{arith}
use lib.Dec.{lit<}
use lib.ListN.{length, take, drop, get_or, length-drop}
use lib.Seq.{drop-cons, take-add, length-take-le, drop-drop, get_or-drop}
use Rattle.log_section.specs.Number.{little, number, Bytes}

pub length_little : (width n : ℕ) → length (little width n) ≡ width
unfolding little
length_little zero n = refl
length_little (suc width) n = ap suc (length_little width (n / 256))

-- a number that fits comes back from its bytes
pub number_little : (width n : ℕ) → n < 256 ^ width → number (little width n) ≡ n
unfolding little number
number_little zero n h = omega (arith, pow-zero 256)
number_little (suc width) n h =
    let small : n / 256 < 256 ^ width = (div-lt_iff_lt-mul (lit< tt)).1 (rw pow-suc at h) in
    omega (arith, number_little width (n / 256) small)

-- bytes come back from their number
pub bytes_drop : (n : ℕ) (s : List ℕ) → Bytes s → Bytes (drop n s)
bytes_drop n s b i = rw get_or-drop (b (n + i))

-- the first bytes are bytes too: past them there is 0
pub bytes_take : (n : ℕ) (s : List ℕ) → Bytes s → Bytes (take n s)
bytes_take zero s b i = lit< tt
bytes_take (suc n) [] b i = lit< tt
bytes_take (suc n) (byte ∷ rest) b zero = b zero
bytes_take (suc n) (byte ∷ rest) b (suc i) = bytes_take n rest (λ j. b (suc j)) i

pub little_number : (s : List ℕ) → Bytes s → little (length s) (number s) ≡ s
unfolding little number
little_number [] b = refl
little_number (byte ∷ rest) b =
    let low : (byte + 256 * number rest) % 256 ≡ byte = omega (arith, b 0) in
    let high : (byte + 256 * number rest) / 256 ≡ number rest = omega (arith, b 0) in
    rw (low, high) (ap (λ (xs : List ℕ). byte ∷ xs) (little_number rest (λ i. b (suc i))))

-- bytes after bytes
pub number_append : (xs ys : List ℕ) → number (xs ++ ys) ≡ number xs + 256 ^ length xs * number ys
unfolding number
number_append [] ys = rw (pow-zero, one-mul, zero-add)
number_append (x ∷ xs) ys =
    rw (number_append xs ys, pow-succ' 256 (length xs), mul_assoc 256 (256 ^ length xs) (number ys)) (omega arith)

-- one byte more
next : (n : ℕ) (s : List ℕ) (at after : ℕ) → after ≡ at + 1 → at < length s
    → number (take (suc n) (drop at s)) ≡ get_or s at 0 + 256 * number (take n (drop after s))
unfolding number
next n s at after e h = rw (e, add-one at, drop-cons s at 0)

pub number_one : (s : List ℕ) (at : ℕ) → at < length s → get_or s at 0 ≡ number (take 1 (drop at s))
unfolding number
number_one s at h = omega (arith, next 0 s at (at + 1) refl h)

-- two bytes, one by one: the first is the low one
number_two : (s : List ℕ) (at : ℕ) → at + 2 ≤ length s → number (take 2 (drop at s)) ≡ get_or s at 0 + 256 * get_or s (at + 1) 0
unfolding number
number_two s at h =
    rw (next 1 s at (at + 1) refl (omega arith), next 0 s (at + 1) (at + 2) (omega arith) (omega arith)) (omega arith)

pub low_byte : (s : List ℕ) (at : ℕ) → Bytes s → at + 2 ≤ length s → get_or s at 0 ≡ number (take 2 (drop at s)) % 256
low_byte s at b h = omega (arith, number_two s at h, b at)

pub high_byte : (s : List ℕ) (at : ℕ) → Bytes s → at + 2 ≤ length s → get_or s (at + 1) 0 ≡ number (take 2 (drop at s)) / 256
high_byte s at b h = omega (arith, number_two s at h, b at)

-- four bytes, one by one
pub number_four : (s : List ℕ) (at : ℕ) → at + 4 ≤ length s
    → number (take 4 (drop at s)) ≡ get_or s at 0 + 256 * (get_or s (at + 1) 0 + 256 * (get_or s (at + 2) 0 + 256 * get_or s (at + 3) 0))
unfolding number
number_four s at h =
    rw (
      next 3 s at (at + 1) refl (omega arith),
      next 2 s (at + 1) (at + 2) (omega arith) (omega arith),
      next 1 s (at + 2) (at + 3) (omega arith) (omega arith),
      next 0 s (at + 3) (at + 4) (omega arith) (omega arith),
    ) (omega arith)

-- eight bytes are twice four
pub number_eight : (s : List ℕ) (at : ℕ) → at + 8 ≤ length s
    → number (take 8 (drop at s)) ≡ number (take 4 (drop at s)) + 4294967296 * number (take 4 (drop (at + 4) s))
number_eight s at h =
    let l : length (take 4 (drop at s)) ≡ 4 = length-take-le 4 (drop at s) (rw length-drop (omega arith)) in
    ap number (take-add 4 4 (drop at s)) ∙ number_append (take 4 (drop at s)) (take 4 (drop 4 (drop at s)))
    ∙ rw (l, drop-drop 4 at s)
