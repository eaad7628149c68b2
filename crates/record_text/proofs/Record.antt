-- The lines of a record's word are the lines of the record's fields, by the layout, under their names.
-- Assumes nothing.
use mathlib.Core.Path.{◌≡◌, ◌∙◌, ap}
use mathlib.Core.Bool.{true}
use Prim.Native.Nat.{ℕ}
use lib.Dec.{T}
use Rattle.bits.specs.Layout.{fitting}
use Rattle.bits.proofs.Fields.{all_back}
use Rattle.field_text.specs.Rows.{shape_text}
use Rattle.field_text.proofs.Fields.{shape_said}
use Rattle.layout.specs.Fields.{fields_of, record_word}
use Rattle.layout.proofs.RoundTrip.{fields_ordered, word_class}
use Rattle.record.specs.Class.{head_of}
use Rattle.record.specs.declared.kinds.Record.{Record}
use Rattle.record_text.specs.Names.{names_of}
use Rattle.record_text.specs.Text.{record_text}
use Rattle.record_text.specs.Inner.{word_text}
use Rattle.record_text.proofs.Shapes.{rows_agree}

-- THE LINES OF A RECORD'S WORD are those of its fields: all of them, each at the layout's bits
pub word_said_lem : (r : Record) → (head_of r).own ≡ true → T (fitting (fields_of r)) → word_text (record_word r) ≡ record_text r
unfolding word_text record_text
word_said_lem r own fits =
    let w = record_word r in
    let b = all_back 32 (fields_of r) (fields_ordered r) fits in
    ap (λ (class : ℕ). shape_text class w) (word_class r fits)
    ∙ shape_said w (head_of r).class (names_of r) (fields_of r) (rows_agree w r own b) b
