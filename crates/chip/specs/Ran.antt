-- What ran when the chip trapped (the Arm manual's SPSR_EL2.M[4] and HCR_EL2.RW).
use Rattle.std.specs.Prelude.{cond}
use Rattle.bits.specs.Field.{bit_of}
use Rattle.record.specs.declared.origin.Origin.{Origin}
use Rattle.chip.specs.declared.ran.Hcr.{Hcr}
use Rattle.chip.specs.declared.ran.Ran.{Ran}
use Rattle.chip.specs.declared.ran.Spsr.{Spsr}

-- bit 4 of the saved word is 0 for AArch64; below a kernel in AArch64, RW, bit 31, is 1
abbrev pub ran_of : Spsr → Hcr → Ran
ran_of spsr hcr = cond (bit_of spsr.0 4) (cond (bit_of hcr.0 31) Ran.Program Ran.Guest) Ran.AArch64

-- a trap is of 32-bit code or of 64-bit code, whatever is above it
abbrev pub origin_of : Ran → Origin
origin_of Ran.AArch64 = Origin.AArch64
origin_of Ran.Program = Origin.AArch32
origin_of Ran.Guest = Origin.AArch32
