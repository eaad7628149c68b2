-- The IL rule of the long form (01, 'Layout of the word'; 02, C-13, C-20 and C-23): IL must be 1 for EC 0x00, 0x0E, 0x20, 0x22, for 0x24
-- when ISV is 0, for instructions without a 16-bit form, in C-20's classes in all but 0x38, and from AArch64 in every class. Elsewhere IL
-- may be either.
use Rattle.std.specs.Prelude.{ℕ, Bool, ◌||◌, List, [], ◌∷◌}
use Rattle.bits.specs.Among.{among}
use Rattle.bits.specs.Test.{implies}
use Rattle.iss.specs.Il.{il_needed}
use Rattle.record.specs.Origin.{from_aarch64}
use Rattle.record.specs.declared.origin.Origin.{Origin}

-- the classes that the short form lacks or asks no IL of
abbrev pub il_always : List ℕ
il_always = 0x22 ∷ 0x2F ∷ 0x30 ∷ 0x32 ∷ 0x34 ∷ 0x3A ∷ []

abbrev pub il_rule : Origin → ℕ → Bool → Bool → Bool
il_rule o class isv il = implies (from_aarch64 o || il_needed class isv || among il_always class) il
