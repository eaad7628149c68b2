-- The lines of a record's word of the short form are the lines of the record's fields, by the layout, under their names.
-- Assumes nothing.
use mathlib.Core.Path.{◌≡◌, ◌∙◌, ap}
use mathlib.Core.Bool.{true}
use Prim.Native.Nat.{ℕ}
use lib.Dec.{T}
use Rattle.bits.specs.Field.{field_of}
use Rattle.bits.specs.Layout.{fitting}
use Rattle.bits.proofs.Fields.{AllBack, all_back}
use Rattle.field_text.specs.Rows.{shape_text}
use Rattle.field_text.proofs.Fields.{shape_said}
use Rattle.short_layout.specs.Fields.{fields_of, record_word}
use Rattle.short_layout.proofs.RoundTrip.{fields_ordered}
use Rattle.short_record.specs.Class.{head_of}
use Rattle.short_record.specs.declared.kinds.Record.{Record}
use Rattle.short_text.specs.Names.{names_of}
use Rattle.short_text.specs.Text.{record_text}
use Rattle.short_text.specs.Inner.{shape_of, word_text}
use Rattle.short_text.proofs.Shapes.{rows_agree}

module _ (w : ℕ) where
  -- the class of a word that holds a record's fields
  class_back : (r : Record) → AllBack w (fields_of r) → field_of w 31 26 ≡ (head_of r).class
  class_back (Record.Plain r) b = b.0
  class_back (Record.Wfx r) b = b.0
  class_back (Record.Mcr r) b = b.0
  class_back (Record.Mcrr r) b = b.0
  class_back (Record.Ldc r) b = b.0
  class_back (Record.Simd r) b = b.0
  class_back (Record.Call r) b = b.0
  class_back (Record.Smc r) b = b.0
  class_back (Record.InstructionAbort r) b = b.0
  class_back (Record.DataAbort r) b = b.0

-- THE LINES OF A RECORD'S WORD are those of its fields: all of them, each at the layout's bits
pub word_said_lem : (r : Record) → (head_of r).own ≡ true → T (fitting (fields_of r)) → word_text (record_word r) ≡ record_text r
unfolding word_text record_text
word_said_lem r own fits =
    let w = record_word r in
    let b = all_back 32 (fields_of r) (fields_ordered r) fits in
    ap (λ (class : ℕ). shape_text (shape_of class (field_of w 5 0)) w) (class_back w r b)
    ∙ shape_said w (shape_of (head_of r).class (field_of w 5 0)) (names_of r) (fields_of r) (rows_agree w r own b) b
