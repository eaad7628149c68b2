-- Where the section is cut that some bytes begin with, and how many entries stand whole before the cut.
-- Assumes nothing.
use mathlib.Core.Path.{◌≡◌, refl, sym}
use mathlib.Core.Bool.{Bool, true, false, cond}
use mathlib.Core.List.{List}
use Prim.Native.Nat.{ℕ, suc, ◌+◌, ◌-◌, ◌*◌, ◌/◌, ◌≤◌, ◌<◌}
use native.Mathlib.Nat.{min-le_right, min-eq_left, le-div_iff_mul-le, div-le_self, suc-mul}
use native.Mathlib.Omega.{arith}
use borrow.Author.Tests.{le-leb, lt-leb, leb-false}
use lib.Dec.{leb}
use Rattle.std.specs.Prelude.{Some, None}
use lib.ListN.{length}
use Rattle.log_section.specs.Section.{count_of, section_of}
use Rattle.log_section.specs.declared.section.Section.{Section}
use Rattle.log_section.proofs.Found.{Whole, whole_is, found, not_found}
use Rattle.log_cut.specs.Whole.{standing, cut_of}
use Rattle.log_cut.specs.declared.Cut.{Cut}
use Rattle.log_cut.proofs.Rests.{past_end}

-- a count that is whole, and one that isn't: entries of no size take no bytes
module _ (rest : List ℕ) where
  pub count_whole : {x : Section} → section_of 0 rest ≡ Some x → (4 ≤ length rest) × (x.count ≡ count_of rest)
  count_whole e =
      let f = found 0 rest e in
      ((whole_is 0 rest f.test).counted, f.counts)

  pub count_cut : section_of 0 rest ≡ None → length rest < 4
  count_cut e = omega (arith, past_end 0 rest (not_found 0 rest e))

module _ (size : ℕ) (rest : List ℕ) where
  pub cut_behind : 4 ≤ length rest → Cut.Entries (standing size rest) (count_of rest) (length rest - 4) ≡ cut_of size rest
  cut_behind h = sym (simp (le-leb 4 (length rest) h))

  pub cut_within : length rest < 4 → Cut.Count (length rest) ≡ cut_of size rest
  cut_within h = sym (simp (lt-leb 4 (length rest) h))

  none_standing : length rest < 4 → 0 ≡ standing size rest
  none_standing h =
      let none : (length rest - 4) / size ≤ 0 = omega (arith, div-le_self (length rest - 4) size) in
      omega (arith, min-le_right (count_of rest) ((length rest - 4) / size))

  -- what a cut tells of those that stand whole
  pub told_behind : {whole count bytes : ℕ} → cut_of size rest ≡ Cut.Entries whole count bytes → whole ≡ standing size rest
  told_behind {whole} {count} {bytes} = go (leb 4 (length rest))
    where
      go : (t : Bool) → cond t (Cut.Entries (standing size rest) (count_of rest) (length rest - 4)) (Cut.Count (length rest))
          ≡ Cut.Entries whole count bytes → whole ≡ standing size rest
      go true e = cc
      go false e = let z : ◌≡◌ {A = ℕ} 0 1 = cc in absurd (omega arith)

  pub told_within : {bytes : ℕ} → cut_of size rest ≡ Cut.Count bytes → 0 ≡ standing size rest
  told_within {bytes} = go (leb 4 (length rest)) refl
    where
      go : (t : Bool) → leb 4 (length rest) ≡ t
          → cond t (Cut.Entries (standing size rest) (count_of rest) (length rest - 4)) (Cut.Count (length rest)) ≡ Cut.Count bytes
          → 0 ≡ standing size rest
      go true p e = let z : ◌≡◌ {A = ℕ} 0 1 = cc in absurd (omega arith)
      go false p e = none_standing (leb-false 4 (length rest) p)

  module _ (some : 0 < size) where
    -- those that stand whole have room behind the count
    pub standing_room : (i : ℕ) → i < standing size rest → 4 + i * size + size ≤ length rest
    standing_room i h =
        let room : suc i ≤ (length rest - 4) / size = omega (arith, min-le_right (count_of rest) ((length rest - 4) / size)) in
        let bytes : suc i * size ≤ length rest - 4 = (le-div_iff_mul-le some).0 room in
        omega (arith, suc-mul i size)

    -- in a whole section all do
    pub all_standing : Whole size rest → standing size rest ≡ count_of rest
    all_standing w =
        let room : count_of rest * size ≤ length rest - 4 = omega (arith, w.within) in
        min-eq_left ((le-div_iff_mul-le some).1 room)
