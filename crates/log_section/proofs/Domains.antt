-- Injections' domains (request C-21): where they stand in a log, and the test of their size as code goes through it.
-- Assumes nothing.
use mathlib.Core.Logic.{◌↔◌}
use mathlib.Core.Path.{◌≡◌, refl, sym, ap, ◌∙◌}
use mathlib.Core.Bool.{Bool, true, false, ◌&&◌}
use mathlib.Core.List.{List, [], ◌∷◌, map}
use Prim.Native.Nat.{ℕ, zero, suc, ◌+◌, ◌*◌, ◌/◌, ◌≤◌, ◌<◌}
use native.Mathlib.Nat.{mod-eq_of_lt}
use native.Mathlib.Numerals.{add-one}
use native.Mathlib.Omega.{arith}
use borrow.Author.Tests.{leb-true, le-leb, lt-leb}
use lib.Dec.{leb}
use lib.ListN.{length, drop, get_or}
use lib.Seq.{drop-cons, drop-drop, drop-length}
use Rattle.bits.proofs.Booleans.{and_left, and_right}
use Rattle.log_section.specs.Number.{little, Bytes}
use Rattle.log_section.specs.Section.{injection_size}
use Rattle.log_section.specs.Log.{injection, injection_in, injection_byte, domain_of, domains_fit, entries_in}
use Rattle.log_section.proofs.Codec.{entry_at_lem}
use Rattle.log_section.proofs.Numbers.{high_byte}

-- TWO BYTES, the second its domain
pub injection_bytes : (n : ℕ) → n < 65536 → injection n ≡ injection_byte n ∷ domain_of n ∷ []
unfolding little
injection_bytes n h =
    let small : n / 256 < 256 = omega arith in
    rw (mod-eq_of_lt small)

-- the domain of injection i, in the section's bytes
pub domain_at : (s : List ℕ) → Bytes s → (count i : ℕ) → 4 + count * injection_size ≤ length s → i < count
    → get_or s (5 + 2 * i) 0 ≡ domain_of (get_or (entries_in injection_size injection_in count (drop 4 s)) i 0)
domain_at s b count i room h =
    let place : 5 + 2 * i ≡ 4 + i * 2 + 1 = omega arith in
    ap (λ (k : ℕ). get_or s k 0) place ∙ high_byte s (4 + i * 2) b (omega arith)
    ∙ ap domain_of (sym (entry_at_lem injection_size injection_in count (drop 4 s) i 0 h ∙ ap injection_in (drop-drop (i * 2) 4 s)))

-- a test that has come to injection i
module _ (injections : List ℕ) where
  pub wide_here : (i : ℕ) → i < length injections → 15 < domain_of (get_or injections i 0) → domains_fit (drop i injections) ≡ false
  wide_here i h wide = rw (drop-cons injections i 0 h) (simp (lt-leb (domain_of (get_or injections i 0)) 15 wide))

  pub fits_here : (i : ℕ) → i < length injections → domain_of (get_or injections i 0) ≤ 15
      → domains_fit (drop i injections) ≡ domains_fit (drop (i + 1) injections)
  fits_here i h fits = rw (add-one i, drop-cons injections i 0 h) (simp (le-leb (domain_of (get_or injections i 0)) 15 fits))

  pub none_left : (i : ℕ) → i ≡ length injections → domains_fit (drop i injections) ≡ true
  none_left i e = rw (e, drop-length)

-- THE TEST IN WORDS: every injection's domain is at most 15
each_fits : (injections : List ℕ) → domains_fit injections ≡ true → (i : ℕ) → i < length injections → domain_of (get_or injections i 0) ≤ 15
each_fits [] e i h = absurd (omega arith)
each_fits (n ∷ rest) e zero h = leb-true (domain_of n) 15 (and_left (leb (domain_of n) 15) (domains_fit rest) e)
each_fits (n ∷ rest) e (suc i) h = each_fits rest (and_right (leb (domain_of n) 15) (domains_fit rest) e) i (omega arith)

all_fit : (injections : List ℕ) → ((i : ℕ) → i < length injections → domain_of (get_or injections i 0) ≤ 15) → domains_fit injections ≡ true
all_fit [] f = refl
all_fit (n ∷ rest) f = simp (le-leb (domain_of n) 15 (f 0 (omega arith)), all_fit rest (λ i h. f (suc i) (omega arith)))

pub domains_fit_exactly : (injections : List ℕ)
    → (domains_fit injections ≡ true) ↔ ((i : ℕ) → i < length injections → domain_of (get_or injections i 0) ≤ 15)
domains_fit_exactly injections = (each_fits injections, all_fit injections)

-- BY SIZE ALONE: injections that differ in their first bytes are judged alike
pub first_bytes_free : (injections others : List ℕ) → map domain_of injections ≡ map domain_of others
    → domains_fit injections ≡ domains_fit others
first_bytes_free injections others e = sym (by_domains injections) ∙ ap fits e ∙ by_domains others
  where
    fits : List ℕ → Bool
    fits [] = true
    fits (domain ∷ rest) = leb domain 15 && fits rest

    by_domains : (l : List ℕ) → fits (map domain_of l) ≡ domains_fit l
    by_domains [] = refl
    by_domains (n ∷ rest) = ap (λ (b : Bool). leb (domain_of n) 15 && b) (by_domains rest)
