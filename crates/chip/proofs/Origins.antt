-- The origin goes by bit 4 of the saved word alone.
-- Assumes nothing.
use mathlib.Core.Path.{◌≡◌, refl}
use mathlib.Core.Bool.{Bool, true, false, cond, not}
use Rattle.bits.specs.Field.{bit_of}
use Rattle.record.specs.Origin.{from_aarch64}
use Rattle.chip.specs.declared.ran.Hcr.{Hcr}
use Rattle.chip.specs.declared.ran.Ran.{Ran}
use Rattle.chip.specs.declared.ran.Spsr.{Spsr}
use Rattle.chip.specs.Ran.{ran_of, origin_of}

-- THE ORIGIN is AArch64 exactly when bit 4 is 0
pub origin_by_bit : (spsr : Spsr) (hcr : Hcr) → from_aarch64 (origin_of (ran_of spsr hcr)) ≡ not (bit_of spsr.0 4)
origin_by_bit spsr hcr = go (bit_of spsr.0 4) (bit_of hcr.0 31)
  where
    go : (m rw : Bool) → from_aarch64 (origin_of (cond m (cond rw Ran.Program Ran.Guest) Ran.AArch64)) ≡ not m
    go true true = refl
    go true false = refl
    go false b = refl
