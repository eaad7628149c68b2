-- THE TEXT OF A RECORD: a line for each field of its layout, by the field's name.
use Rattle.std.specs.Prelude.{ℕ, List}
use Rattle.field_text.specs.Line.{fields_text}
use Rattle.layout.specs.Fields.{fields_of}
use Rattle.record.specs.declared.kinds.Record.{Record}
use Rattle.record_text.specs.Names.{names_of}

unfoldable pub record_text : Record → List ℕ
record_text r = fields_text (names_of r) (fields_of r)
