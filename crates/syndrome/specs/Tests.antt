-- What reading and writing test before they ask for the edition (01, 'Numbers a call may answer'): of a word its own bits, of a record its
-- class and IL. Which classes there are, and where IL must be 1, goes by the trap's origin (02, C-23).
use Rattle.std.specs.Prelude.{ℕ, Bool, List, [], ◌∷◌, eqb}
use Rattle.bits.specs.Field.{field_of, bit_of}
use Rattle.bits.specs.Decide.{Test, needs}
use Rattle.edition.specs.declared.Refusal.{Refusal}
use Rattle.edition.specs.declared.Refusal.TheVariants.{UpperHalf, UnknownClass, ShortInstruction, NoEdition}
use Rattle.record.specs.Class.{is_class}
use Rattle.record.specs.declared.origin.Origin.{Origin}
use Rattle.record.specs.declared.kinds.Record.{Record}
use Rattle.rule.specs.Il.{il_rule}
use Rattle.rule.specs.Has.{record_class, record_il}

-- 2: bits 63:32 of the syndrome are zero
abbrev pub upper_clear : ℕ → Bool
upper_clear w = eqb (field_of w 63 32) 0

-- 3: the class, EC, is among those of the trap's origin
abbrev pub class_known : Origin → ℕ → Bool
class_known o w = is_class o (field_of w 31 26)

-- 4: IL, bit 25, is 1 where the origin, EC and ISV, bit 24, ask for it
abbrev pub word_il : Origin → ℕ → Bool
word_il o w = il_rule o (field_of w 31 26) (bit_of w 24) (bit_of w 25)

abbrev pub read_tests : Origin → ℕ → List (Test Refusal)
read_tests o w = needs (upper_clear w) UpperHalf ∷ needs (class_known o w) UnknownClass ∷ needs (word_il o w) ShortInstruction ∷ []

-- writing: a class that the record's kind or the origin lacks is 5, then 4
abbrev pub write_tests : Origin → Record → List (Test Refusal)
write_tests o r = needs (record_class o r) NoEdition ∷ needs (record_il o r) ShortInstruction ∷ []
