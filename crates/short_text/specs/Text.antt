-- THE TEXT OF A RECORD of the short form: a line for each field of its layout, by the field's name.
use Rattle.std.specs.Prelude.{ℕ, List}
use Rattle.field_text.specs.Line.{fields_text}
use Rattle.short_layout.specs.Fields.{fields_of}
use Rattle.short_record.specs.declared.kinds.Record.{Record}
use Rattle.short_text.specs.Names.{names_of}

unfoldable pub record_text : Record → List ℕ
record_text r = fields_text (names_of r) (fields_of r)
