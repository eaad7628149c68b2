-- EACH FEATURE stands in the edition exactly when its field says so, and the number is an edition's.
-- Assumes nothing.
use mathlib.Core.Path.{◌≡◌, refl, ap}
use mathlib.Core.Bool.{Bool, true, false, ◌||◌}
use Prim.Native.Nat.{ℕ, ◌+◌}
use lib.Dec.{eqb, ltb}
use Rattle.bits.specs.Field.{field_of}
use Rattle.edition.specs.Feature.{is_edition, ras, lpa2, hafdbs, lpa}
use Rattle.chip.specs.declared.features.IdAa64pfr0.{IdAa64pfr0}
use Rattle.chip.specs.declared.features.IdAa64mmfr0.{IdAa64mmfr0}
use Rattle.chip.specs.declared.features.IdAa64mmfr1.{IdAa64mmfr1}
use Rattle.chip.specs.declared.features.IdPfr0.{IdPfr0}
use Rattle.chip.specs.Feature.{has_ras, has_lpa2, has_hafdbs, has_lpa, counted_of, edition_of, short_edition_of, some_of}

-- the four features are the four digits of a number below 16
counts : (r l h p : Bool) → (is_edition (counted_of r 1 + counted_of l 2 + counted_of h 4 + counted_of p 8) ≡ true)
    × (ras (counted_of r 1 + counted_of l 2 + counted_of h 4 + counted_of p 8) ≡ r)
    × (lpa2 (counted_of r 1 + counted_of l 2 + counted_of h 4 + counted_of p 8) ≡ l)
    × (hafdbs (counted_of r 1 + counted_of l 2 + counted_of h 4 + counted_of p 8) ≡ h)
    × (lpa (counted_of r 1 + counted_of l 2 + counted_of h 4 + counted_of p 8) ≡ p)
counts true true true true = (refl, refl, refl, refl, refl)
counts true true true false = (refl, refl, refl, refl, refl)
counts true true false true = (refl, refl, refl, refl, refl)
counts true true false false = (refl, refl, refl, refl, refl)
counts true false true true = (refl, refl, refl, refl, refl)
counts true false true false = (refl, refl, refl, refl, refl)
counts true false false true = (refl, refl, refl, refl, refl)
counts true false false false = (refl, refl, refl, refl, refl)
counts false true true true = (refl, refl, refl, refl, refl)
counts false true true false = (refl, refl, refl, refl, refl)
counts false true false true = (refl, refl, refl, refl, refl)
counts false true false false = (refl, refl, refl, refl, refl)
counts false false true true = (refl, refl, refl, refl, refl)
counts false false true false = (refl, refl, refl, refl, refl)
counts false false false true = (refl, refl, refl, refl, refl)
counts false false false false = (refl, refl, refl, refl, refl)

-- THE EDITION has each feature exactly when the chip's field says so
pub edition_has : (pfr0 : IdAa64pfr0) (mmfr0 : IdAa64mmfr0) (mmfr1 : IdAa64mmfr1)
    → (is_edition (edition_of pfr0 mmfr0 mmfr1) ≡ true)
    × (ras (edition_of pfr0 mmfr0 mmfr1) ≡ has_ras pfr0)
    × (lpa2 (edition_of pfr0 mmfr0 mmfr1) ≡ has_lpa2 mmfr0)
    × (hafdbs (edition_of pfr0 mmfr0 mmfr1) ≡ has_hafdbs mmfr1)
    × (lpa (edition_of pfr0 mmfr0 mmfr1) ≡ has_lpa mmfr0)
unfolding edition_of
edition_has pfr0 mmfr0 mmfr1 = counts (has_ras pfr0) (has_lpa2 mmfr0) (has_hafdbs mmfr1) (has_lpa mmfr0)

-- THE SHORT EDITION is one of the two, and has RAS exactly when its field says so
pub short_edition_has : (pfr0 : IdPfr0) → (ltb (short_edition_of pfr0) 2 ≡ true) × (ras (short_edition_of pfr0) ≡ some_of pfr0.0 31 28)
short_edition_has pfr0 = go (some_of pfr0.0 31 28)
  where
    go : (r : Bool) → (ltb (counted_of r 1) 2 ≡ true) × (ras (counted_of r 1) ≡ r)
    go true = (refl, refl)
    go false = (refl, refl)

-- TGran4 is signed: a chip without pages of 4 KB, 0b1111, has LPA2 by its TGran16 alone
pub no_4_kb : (mmfr0 : IdAa64mmfr0) → field_of mmfr0.0 31 28 ≡ 0b1111 → has_lpa2 mmfr0 ≡ eqb (field_of mmfr0.0 23 20) 2
no_4_kb mmfr0 e = ap (λ (n : ℕ). eqb n 1 || eqb (field_of mmfr0.0 23 20) 2) e
