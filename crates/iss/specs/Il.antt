-- Where IL must be 1 in every form (01, 'Layout of the word', source 004, 'IL', and 02, C-13): for EC 0x00, 0x0E and 0x20, for trapped
-- instructions that have no 16-bit form, and for 0x24 when ISV is 0. A form's own rule says the rest.
use Rattle.std.specs.Prelude.{ℕ, Bool, not, ◌&&◌, ◌||◌, eqb}
use Rattle.bits.specs.Test.{between}

-- of 01's trapped instructions only WFI, WFE and SVC have a 16-bit form: 0x03 to 0x08, 0x0C, 0x12 and 0x13 have none
abbrev pub wide_only : ℕ → Bool
wide_only class = between 0x03 0x08 class || eqb class 0x0C || eqb class 0x12 || eqb class 0x13

abbrev pub il_needed : ℕ → Bool → Bool
il_needed class isv = eqb class 0x00 || eqb class 0x0E || eqb class 0x20 || wide_only class || eqb class 0x24 && not isv
