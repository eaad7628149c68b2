-- A short edition has a record (01, 'Editions', over source 004's lines) when the layout lines, the IL and abort rules and the fault codes
-- allow its class and fields there, and each field fits its place.
use Rattle.std.specs.Prelude.{ℕ, Bool, ◌&&◌}
use Rattle.bits.specs.Layout.{fitting}
use Rattle.short_record.specs.Class.{head_of}
use Rattle.short_layout.specs.Fields.{fields_of}
use Rattle.short_record.specs.declared.kinds.Record.{Record}
use Rattle.short_rule.specs.Edition.{is_edition, mask_of}
use Rattle.short_rule.specs.Il.{il_rule}
use Rattle.short_rule.specs.Rule.{layout_rule}
use Rattle.short_rule.specs.Code.{edition_rule}

-- IL of a record
abbrev pub record_il : Record → Bool
record_il r = il_rule (head_of r).class (head_of r).isv (head_of r).il

-- what both editions ask alike
unfoldable pub lawful : Record → Bool
lawful r = (head_of r).own && record_il r && (fitting (fields_of r) && layout_rule r)

unfoldable pub has : ℕ → Record → Bool
has e r = is_edition e && lawful r && edition_rule e r

-- the mask of the editions that have a record
abbrev pub editions_of : Record → ℕ
editions_of r = mask_of (λ e. has e r)
