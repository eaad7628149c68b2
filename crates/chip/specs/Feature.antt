-- Features by the fields of the ID registers. A field of four bits is unsigned, and 0 is "not implemented", but for TGran4, which is signed:
-- 0 is pages of 4 KB, 1 the same with addresses of 52 bits, and 0b1111, -1, none.
use Rattle.std.specs.Prelude.{ℕ, ◌+◌, Bool, cond, not, ◌||◌, eqb, leb}
use Rattle.bits.specs.Field.{field_of}
use Rattle.status.specs.declared.Marks.{Marks}
use Rattle.chip.specs.declared.features.IdAa64pfr0.{IdAa64pfr0}
use Rattle.chip.specs.declared.features.IdAa64mmfr0.{IdAa64mmfr0}
use Rattle.chip.specs.declared.features.IdAa64mmfr1.{IdAa64mmfr1}
use Rattle.chip.specs.declared.features.IdPfr0.{IdPfr0}
use Rattle.chip.specs.declared.features.IdPfr2.{IdPfr2}
use Rattle.chip.specs.declared.features.IdMmfr3.{IdMmfr3}

abbrev pub some_of : ℕ → ℕ → ℕ → Bool
some_of word high low = not (eqb (field_of word high low) 0)

-- ---- the edition: the rows of docs/FITTER.md's table

-- ID_AA64PFR0_EL1.RAS, bits 31:28, isn't 0
abbrev pub has_ras : IdAa64pfr0 → Bool
has_ras pfr0 = some_of pfr0.0 31 28

-- ID_AA64MMFR0_EL1.TGran4, bits 31:28, is 1, or its TGran16, bits 23:20, is 2
abbrev pub has_lpa2 : IdAa64mmfr0 → Bool
has_lpa2 mmfr0 = eqb (field_of mmfr0.0 31 28) 1 || eqb (field_of mmfr0.0 23 20) 2

-- ID_AA64MMFR1_EL1.HAFDBS, bits 3:0, isn't 0
abbrev pub has_hafdbs : IdAa64mmfr1 → Bool
has_hafdbs mmfr1 = some_of mmfr1.0 3 0

-- ID_AA64MMFR0_EL1.PARange, bits 3:0, is 6 or more
abbrev pub has_lpa : IdAa64mmfr0 → Bool
has_lpa mmfr0 = leb 6 (field_of mmfr0.0 3 0)

-- what a feature counts
abbrev pub counted_of : Bool → ℕ → ℕ
counted_of has count = cond has count 0

-- the sum of what the features count: each stands in the edition exactly when its field says so (proofs/Having.antt)
unfoldable pub edition_of : IdAa64pfr0 → IdAa64mmfr0 → IdAa64mmfr1 → ℕ
edition_of pfr0 mmfr0 mmfr1 =
    counted_of (has_ras pfr0) 1 + counted_of (has_lpa2 mmfr0) 2 + counted_of (has_hafdbs mmfr1) 4 + counted_of (has_lpa mmfr0) 8

-- of the short form RAS alone counts: ID_PFR0.RAS, bits 31:28, isn't 0
abbrev pub short_edition_of : IdPfr0 → ℕ
short_edition_of pfr0 = counted_of (some_of pfr0.0 31 28) 1

-- ---- the marks

-- ID_MMFR3.PAN, bits 19:16, ID_PFR2.SSBS, bits 7:4, and ID_PFR0.DIT, bits 27:24: each isn't 0
abbrev pub marks_of : IdMmfr3 → IdPfr2 → IdPfr0 → Marks
marks_of mmfr3 pfr2 pfr0 =
    record { pan = some_of mmfr3.0 19 16; ssbs = some_of pfr2.0 7 4; dit = some_of pfr0.0 27 24 }
