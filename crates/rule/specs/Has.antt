-- An edition has a record (01, 'Editions') when the layout lines, the IL and abort rules and the fault codes allow its class and fields
-- there, and each field fits its place. From each origin the editions have other records (02, C-23).
use Rattle.std.specs.Prelude.{ℕ, Bool, true, ◌&&◌}
use Rattle.bits.specs.Layout.{fitting}
use Rattle.edition.specs.Feature.{is_edition}
use Rattle.edition.specs.Mask.{mask_of}
use Rattle.record.specs.Class.{is_class, head_of}
use Rattle.record.specs.Sort.{sort_of}
use Rattle.layout.specs.Fields.{fields_of}
use Rattle.layout_rule.specs.Rule.{layout_rule}
use Rattle.fault_code.specs.Code.{instruction_code, data_code, set_rule, isv_rule, error_code}
use Rattle.record.specs.declared.origin.Origin.{Origin}
use Rattle.record.specs.declared.kinds.Record.{Record}
use Rattle.record.specs.declared.kinds.Sort.{Sort}
use Rattle.rule.specs.Il.{il_rule}

-- the class of a record: its kind has it, and so has the origin
abbrev pub record_class : Origin → Record → Bool
record_class o r = (head_of r).own && is_class o (head_of r).class

-- IL of a record
abbrev pub record_il : Origin → Record → Bool
record_il o r = il_rule o (head_of r).class (head_of r).isv (head_of r).il

-- only an abort's rules and an SError interrupt's go by the edition
abbrev pub sort_rule : ℕ → Sort → Bool
sort_rule e Sort.Plain = true
sort_rule e Sort.Addressed = true
sort_rule e (Sort.InstructionAbort r) = instruction_code e r.code && set_rule e r.set r.code
sort_rule e (Sort.DataAbort r) = data_code e r.code && set_rule e r.set r.code && isv_rule e r.isv r.code
sort_rule e (Sort.SError r) = error_code e r.code

abbrev pub edition_rule : ℕ → Record → Bool
edition_rule e r = sort_rule e (sort_of r)

-- what every edition asks alike: of the fields, and with class and IL
abbrev pub field_rule : Origin → Record → Bool
field_rule o r = fitting (fields_of r) && layout_rule o r

unfoldable pub lawful : Origin → Record → Bool
lawful o r = record_class o r && record_il o r && field_rule o r

unfoldable pub has : Origin → ℕ → Record → Bool
has o e r = is_edition e && lawful o r && edition_rule e r

-- the mask of the editions that have a record
abbrev pub editions_of : Origin → Record → ℕ
editions_of o r = mask_of (λ e. has o e r)

-- and of those that allow its fields, whatever its class and IL
abbrev pub allowed_of : Origin → Record → ℕ
allowed_of o r = mask_of (λ e. field_rule o r && edition_rule e r)
