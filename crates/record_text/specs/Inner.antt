-- Inner contracts, which nobody has to believe: the lines of a word, whose shape is its class.
use Rattle.std.specs.Prelude.{ℕ, List}
use Rattle.bits.specs.Field.{field_of}
use Rattle.field_text.specs.Rows.{shape_text}

unfoldable pub word_text : ℕ → List ℕ
word_text w = shape_text (field_of w 31 26) w
