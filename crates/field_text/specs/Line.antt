-- A field as a line: its name, its bits and its value, and what the manual says of the value.
use Rattle.std.specs.Prelude.{ℕ, cond, List, [], ◌∷◌, ◌++◌, eqb}
use Rattle.bits.specs.Layout.{Field, high_of, low_of, value_of}
use Rattle.names.specs.Name.{Name, meaning_of}
use Rattle.text.specs.Ascii.{ascii}
use Rattle.text.specs.Numeral.{decimal_text, hex_text}

-- bits high:low, or one bit
abbrev pub bits_text : ℕ → ℕ → List ℕ
bits_text high low = cond (eqb high low) (decimal_text high) (decimal_text high ++ ascii ":" ++ decimal_text low)

abbrev pub line_text : Name → ℕ → ℕ → ℕ → List ℕ
line_text n high low value =
    n.label ++ ascii " " ++ bits_text high low ++ ascii " = 0x" ++ hex_text value ++ meaning_of n.values value ++ ascii "\n"

-- THE LINES OF A LAYOUT'S FIELDS, each by its name
abbrev pub fields_text : List Name → List Field → List ℕ
fields_text [] fs = []
fields_text (n ∷ ns) [] = []
fields_text (n ∷ ns) (f ∷ fs) = line_text n (high_of f) (low_of f) (value_of f) ++ fields_text ns fs
