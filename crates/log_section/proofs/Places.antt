-- Places in a log: what stands there.
-- Assumes nothing.
use mathlib.Core.Path.{◌≡◌, refl, sym, ap, ◌∙◌}
use mathlib.Core.Bool.{Bool, true, false, cond, ◌&&◌}
use mathlib.Core.List.{List}
use Rattle.std.specs.Prelude.{Option, Some, None}
use Prim.Native.Nat.{ℕ, zero, suc, ◌+◌, ◌*◌, ◌≤◌, ◌<◌}
use native.Mathlib.Nat.{mul-le-mul_right, suc-mul}
use native.Mathlib.Omega.{arith}
use borrow.Author.Tests.{lt-ltb, le-ltb, le-leb, ltb-true, leb-true}
use lib.Dec.{leb, ltb}
use lib.ListN.{length, drop, get_or, length-drop}
use Rattle.log_section.specs.Section.{sizes, section_of}
use Rattle.log_section.specs.Look.{section_at, moved_past, skip_from, entry_in, entry_at, entry_of, look_at}
use Rattle.log_section.specs.declared.section.Section.{Section}
use Rattle.log_section.specs.declared.entry.Place.{Place}
use Rattle.log_section.specs.declared.entry.Entry.{Entry}
use Rattle.log_section.specs.declared.entry.Look.{Look}
use Rattle.log_section.proofs.Found.{Found, found, both_true, whole_is}

-- what stands at a place within the log, by the tests on it
pub place_in : (s : List ℕ) (passed at : ℕ) → passed < 4 → at ≤ length s
    → section_of (get_or sizes passed 0) (drop at s) ≡ section_at s passed at
place_in s passed at h k = sym (simp (lt-ltb passed 4 h, le-leb at (length s) k))

-- and so for an entry by itself
module _ (s : List ℕ) (passed at : ℕ) where
  pub entry_here : passed < 4 → at + get_or sizes passed 0 ≤ length s → Some (entry_in passed (drop at s)) ≡ entry_at s passed at
  entry_here h k = sym (simp (lt-ltb passed 4 h, le-leb (at + get_or sizes passed 0) (length s) k))

-- what a section that stands at a place tells of it
pub record Standing (s : List ℕ) (passed at count end : ℕ) : Type 0 where
  pub below : passed < 4
  pub within : at ≤ length s
  pub here : Found (get_or sizes passed 0) (drop at s) count end

standing_by : (t : Bool) (y : Option Section) {x : Section} → cond t y None ≡ Some x → (t ≡ true) × (y ≡ Some x)
standing_by true y e = (refl, e)
standing_by false y e = cc

pub standing : (s : List ℕ) (passed at : ℕ) {x : Section} → section_at s passed at ≡ Some x → Standing s passed at x.count x.end
standing s passed at e =
    let t = standing_by (ltb passed 4 && leb at (length s)) (section_of (get_or sizes passed 0) (drop at s)) e in
    let b = both_true (ltb passed 4) (leb at (length s)) t.0 in
    record {
      below = ltb-true passed 4 b.0;
      within = leb-true at (length s) b.1;
      here = found (get_or sizes passed 0) (drop at s) t.1;
    }

-- the section's end and its entries lie within the log
module _ (s : List ℕ) (passed at : ℕ) {count end : ℕ} (st : Standing s passed at count end) where
  pub end_in : at + end ≤ length s
  end_in = omega (arith, st.within, st.here.ends, (whole_is (get_or sizes passed 0) (drop at s) st.here.test).within, length-drop at s)

  pub entry_in_lem : (i : ℕ) → i < count → at + 4 + i * get_or sizes passed 0 + get_or sizes passed 0 ≤ length s
  entry_in_lem i h =
      let size = get_or sizes passed 0 in
      let more : suc i * size ≤ count * size = mul-le-mul_right size h in
      omega (arith, end_in, st.here.ends, suc-mul i size, ap (λ (n : ℕ). n * size) st.here.counts)

-- where no section stands, a place stays however often it is to move
pub skip_none : (s : List ℕ) (n : ℕ) (p : Place) → section_at s p.passed p.at ≡ None → skip_from s n p ≡ p
skip_none s zero p e = refl
skip_none s (suc n) p e = ap (λ (x : Option Section). skip_from s n (moved_past x p)) e ∙ skip_none s n p e

pub skip_more : (s : List ℕ) (n m : ℕ) (p : Place) → n ≡ suc m → skip_from s n p ≡ skip_from s m (moved_past (section_at s p.passed p.at) p)
skip_more s n m p e = rw e

-- what a look at a place answers, by the section that stands there
module _ (s : List ℕ) (passed at i : ℕ) where
  look_by : {x : Option Section} {e : Option Entry} → section_at s passed at ≡ x → entry_of s passed at i x ≡ e
      → ◌≡◌ {A = Look} record { section = x; entry = e } (look_at s passed at i)
  look_by p q = rw (p, q)

  pub look_found : {x : Section} → section_at s passed at ≡ Some x → i < x.count
      → ◌≡◌ {A = Look} record { section = Some x; entry = Some (entry_in passed (drop (at + 4 + i * get_or sizes passed 0) s)) }
      (look_at s passed at i)
  look_found {x} p h = look_by p (simp (lt-ltb i x.count h))

  pub look_past : {x : Section} → section_at s passed at ≡ Some x → x.count ≤ i
      → ◌≡◌ {A = Look} record { section = Some x; entry = None } (look_at s passed at i)
  look_past {x} p h = look_by p (simp (le-ltb i x.count h))
