-- What reading and writing test before they ask for the edition (01, 'Numbers a call may answer'): of a word its own bits, of a record its
-- class and IL. The short form has no refusal 2.
use Rattle.std.specs.Prelude.{ℕ, Bool, List, [], ◌∷◌}
use Rattle.bits.specs.Field.{field_of, bit_of}
use Rattle.bits.specs.Decide.{Test, needs}
use Rattle.edition.specs.declared.Refusal.{Refusal}
use Rattle.edition.specs.declared.Refusal.TheVariants.{UnknownClass, ShortInstruction, NoEdition}
use Rattle.short_record.specs.Class.{is_class, head_of}
use Rattle.short_record.specs.declared.kinds.Record.{Record}
use Rattle.short_rule.specs.Il.{il_rule}
use Rattle.short_rule.specs.Has.{record_il}

-- 3: the class, EC, is in the build
abbrev pub class_known : ℕ → Bool
class_known w = is_class (field_of w 31 26)

-- 4: IL, bit 25, is 1 where EC and ISV, bit 24, ask for it
abbrev pub word_il : ℕ → Bool
word_il w = il_rule (field_of w 31 26) (bit_of w 24) (bit_of w 25)

abbrev pub read_tests : ℕ → List (Test Refusal)
read_tests w = needs (class_known w) UnknownClass ∷ needs (word_il w) ShortInstruction ∷ []

-- writing: a class that the record's kind lacks is 5, then 4
abbrev pub write_tests : Record → List (Test Refusal)
write_tests r = needs (head_of r).own NoEdition ∷ needs (record_il r) ShortInstruction ∷ []
