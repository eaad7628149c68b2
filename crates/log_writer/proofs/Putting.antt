-- Bytes put into a buffer one after the other, and the entries of a section put one by one.
-- Assumes nothing.
use mathlib.Core.Path.{◌≡◌, refl, sym, ap, ◌∙◌}
use mathlib.Core.List.{List, [], ◌∷◌, ◌++◌}
use Prim.Native.Nat.{ℕ, zero, suc, ◌+◌, ◌*◌, ◌/◌, ◌%◌, ◌^◌, ◌≤◌, ◌<◌}
use native.Mathlib.Nat.{add-zero, add_assoc, zero-mul, suc-mul, div-div-eq-div-mul, mod-eq_of_lt, pow-zero, pow-suc, div-one}
use native.Mathlib.Numerals.{add-one}
use native.Mathlib.Omega.{arith}
use lib.ListN.{length, drop, get_or, set}
use lib.Seq.{sets, length-sets, drop-cons, drop-length}
use Rattle.std.specs.Int.{bytes_low_first}
use Rattle.log_section.specs.Number.{little}
use Rattle.log_section.specs.Log.{Address, byte, pair, entry_bytes}
use Rattle.log_section.proofs.Numbers.{length_little}
use Rattle.log_writer.specs.Lists.{paired}

-- bytes after bytes
pub sets_both : (xs ys l : List ℕ) (at end : ℕ) → end ≡ at + length xs → sets (sets l at xs) end ys ≡ sets l at (xs ++ ys)
sets_both [] ys l at end e = rw (e, add-zero)
sets_both (x ∷ xs) ys l at end e = sets_both xs ys (set l at x) (suc at) end (omega arith)

-- the library's bytes of a number
low_first : (k i n : ℕ) → bytes_low_first i k n ≡ little k (n / 256 ^ i)
unfolding little
low_first zero i n = refl
low_first (suc k) zero n =
    rw (pow-zero, div-one) (ap (λ (rest : List ℕ). n % 256 ∷ rest) (low_first k 1 n))
low_first (suc k) (suc i) n =
    let next : n / 256 ^ suc i / 256 ≡ n / 256 ^ suc (suc i) = div-div-eq-div-mul n (256 ^ suc i) 256 ∙ ap (λ (m : ℕ). n / m) (sym (pow-suc 256 (suc i))) in
    rw next (ap (λ (rest : List ℕ). n / 256 ^ suc i % 256 ∷ rest) (low_first k (suc (suc i)) n))

pub low_bytes : (k n : ℕ) → bytes_low_first 0 k n ≡ little k n
low_bytes k n = low_first k 0 n ∙ rw (pow-zero, div-one)

-- bytes stored one by one
pub two_stored : (l bytes : List ℕ) (at n : ℕ) → bytes ≡ little 2 n → set (set l at (get_or bytes 0 0)) (at + 1) (get_or bytes 1 0) ≡ sets l at (little 2 n)
unfolding little
two_stored l bytes at n e = rw (e, add-one at)

-- so many of a number's bytes, the first of them stored
abbrev pub four_of : List ℕ → List ℕ → ℕ → List ℕ
four_of l bytes at = set (set (set (set l at (get_or bytes 0 0)) (at + 1) (get_or bytes 1 0)) (at + 2) (get_or bytes 2 0)) (at + 3) (get_or bytes 3 0)

pub four_stored : (l bytes : List ℕ) (at n : ℕ) → bytes ≡ little 8 n → four_of l bytes at ≡ sets l at (little 4 n)
unfolding little
four_stored l bytes at n e =
    let two : at + 2 ≡ suc (suc at) = omega arith in
    let three : at + 3 ≡ suc (suc (suc at)) = omega arith in
    rw (e, add-one at, two, three)

pub eight_stored : (l bytes : List ℕ) (at n : ℕ) → bytes ≡ little 8 n
    → set (set (set (set (four_of l bytes at) (at + 4) (get_or bytes 4 0)) (at + 5) (get_or bytes 5 0)) (at + 6) (get_or bytes 6 0)) (at + 7) (get_or bytes 7 0)
    ≡ sets l at (little 8 n)
unfolding little
eight_stored l bytes at n e =
    let two : at + 2 ≡ suc (suc at) = omega arith in
    let three : at + 3 ≡ suc (suc (suc at)) = omega arith in
    let four : at + 4 ≡ suc (suc (suc (suc at))) = omega arith in
    let five : at + 5 ≡ suc (suc (suc (suc (suc at)))) = omega arith in
    let six : at + 6 ≡ suc (suc (suc (suc (suc (suc at))))) = omega arith in
    let seven : at + 7 ≡ suc (suc (suc (suc (suc (suc (suc at)))))) = omega arith in
    rw (e, add-one at, two, three, four, five, six, seven)

pub byte_stored : (l : List ℕ) (at n : ℕ) → n < 256 → set l at n ≡ sets l at (byte n)
unfolding little
byte_stored l at n h = rw (mod-eq_of_lt h)

-- the pairs of two lists of the same length
pub paired_length : (fars hpfars : List ℕ) → length fars ≡ length hpfars → length (paired fars hpfars) ≡ length fars
paired_length [] hpfars e = refl
paired_length (far ∷ fars) [] e = absurd (omega arith)
paired_length (far ∷ fars) (hpfar ∷ hpfars) e = ap suc (paired_length fars hpfars (omega arith))

pub paired_at : (fars hpfars : List ℕ) (i : ℕ) (other : Address) → length fars ≡ length hpfars → i < length fars
    → get_or (paired fars hpfars) i other ≡ record { far = get_or fars i 0; hpfar = get_or hpfars i 0 }
paired_at [] hpfars i other e h = absurd (omega arith)
paired_at (far ∷ fars) [] i other e h = absurd (omega arith)
paired_at (far ∷ fars) (hpfar ∷ hpfars) zero other e h = refl
paired_at (far ∷ fars) (hpfar ∷ hpfars) (suc i) other e h = paired_at fars hpfars i other (omega arith) (omega arith)

pub pair_stored : (fars hpfars out : List ℕ) (i end middle : ℕ) → middle ≡ end + 8
    → sets (sets out end (little 8 (get_or fars i 0))) middle (little 8 (get_or hpfars i 0))
    ≡ sets out end (pair record { far = get_or fars i 0; hpfar = get_or hpfars i 0 })
pair_stored fars hpfars out i end middle m =
    sets_both (little 8 (get_or fars i 0)) (little 8 (get_or hpfars i 0)) out end middle
    (m ∙ ap (λ (k : ℕ). end + k) (sym (length_little 8 (get_or fars i 0))))

-- a section whose first i entries were put: what is left of them, put behind those, gives what all of them give
module _ {A : Type 0} (bytes : A → List ℕ) (size : ℕ) (sized : (a : A) → length (bytes a) ≡ size) (entries : List A)
    (out₀ : List ℕ) (end₀ : ℕ) where
  pub record Putting (out : List ℕ) (end i : ℕ) : Type 0 where
    pub within : i ≤ length entries
    pub same : length out ≡ length out₀
    pub ends : end ≡ end₀ + i * size
    pub stored : sets out end (entry_bytes bytes (drop i entries)) ≡ sets out₀ end₀ (entry_bytes bytes entries)

  pub begun : Putting out₀ end₀ 0
  begun = record { within = omega arith; same = refl; ends = rw (zero-mul, add-zero); stored = refl }

  pub put_one : {out : List ℕ} {end i : ℕ} → Putting out end i → i < length entries → (x : A) → x ≡ get_or entries i x
      → (out' : List ℕ) (end' : ℕ) → out' ≡ sets out end (bytes x) → end' ≡ end + size → Putting out' end' (i + 1)
  put_one {out} {end} {i} p more x is out' end' e n =
      let rest = entry_bytes bytes (drop (suc i) entries) in
      record {
        within = omega arith;
        same = ap length e ∙ length-sets out end (bytes x) ∙ p.same;
        ends = n ∙ rw (p.ends, add-one i, suc-mul) (add_assoc end₀ (i * size) size);
        stored =
            rw (e, add-one i) (sets_both (bytes x) rest out end end' (n ∙ ap (λ (k : ℕ). end + k) (sym (sized x)))
            ∙ ap (λ (l : List A). sets out end (entry_bytes bytes l))
            (ap (λ (y : A). y ∷ drop (suc i) entries) is ∙ sym (drop-cons entries i x more)) ∙ p.stored);
      }

  pub put_all : {out : List ℕ} {end i : ℕ} → Putting out end i → length entries ≤ i
      → (end ≡ end₀ + length entries * size) × (out ≡ sets out₀ end₀ (entry_bytes bytes entries))
  put_all {out} {end} {i} p h =
      let past : i ≡ length entries = omega (arith, p.within) in
      (rw past at p.ends, rw (past, drop-length) at p.stored)

-- behind the count
pub section_put : (out out₀ out₁ body : List ℕ) (at end₀ n : ℕ) → out₀ ≡ sets out at (little 4 n) → end₀ ≡ at + 4
    → out₁ ≡ sets out₀ end₀ body
    → out₁ ≡ sets out at (little 4 n ++ body)
section_put out out₀ out₁ body at end₀ n e p q =
    q ∙ ap (λ (l : List ℕ). sets l end₀ body) e ∙ sets_both (little 4 n) body out at end₀
    (p ∙ ap (λ (k : ℕ). at + k) (sym (length_little 4 n)))
