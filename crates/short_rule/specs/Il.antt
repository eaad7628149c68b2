-- The IL rule of the short form (source 004, 'IL'): IL is RES1 for EC 0x00, 0x0E and 0x20, and for 0x24 when ISV is 0. It is UNKNOWN for
-- 0x22, a PC alignment fault, where it is kept as found. It must be 1 for instructions without a 16-bit form (02, C-13). Elsewhere IL may
-- be either.
use Rattle.std.specs.Prelude.{ℕ, Bool, eqb}
use Rattle.bits.specs.Test.{implies}
use Rattle.iss.specs.Il.{il_needed}

abbrev pub il_unknown : ℕ → Bool
il_unknown class = eqb class 0x22

abbrev pub il_rule : ℕ → Bool → Bool → Bool
il_rule class isv il = implies (il_needed class isv) il
