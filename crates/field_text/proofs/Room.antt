-- How long the lines of a word can be: at most fifteen fields, and 208 bytes for each.
-- Assumes nothing.
use mathlib.Core.Bool.{Bool, true, false, cond}
use mathlib.Core.List.{[], ◌++◌}
use Prim.Native.Nat.{ℕ, zero, suc, ◌*◌, ◌≤◌}
use native.Mathlib.Omega.{arith}
use lib.Dec.{eqb}
use lib.ListN.{length, get_or, length-append}
use Rattle.bits.specs.Field.{field_of}
use Rattle.names.specs.Name.{Name, meaning_of}
use Rattle.names.specs.Table.{values_at}
use Rattle.names.proofs.Room.{label_length, meaning_length}
use Rattle.text.specs.Ascii.{ascii}
use Rattle.text.specs.Numeral.{decimal_text}
use Rattle.text.proofs.Numerals.{decimal_length, hex_length}
use Rattle.field_text.specs.Line.{bits_text, line_text}
use Rattle.field_text.specs.Rows.{row_labels, row_highs, row_lows, row_tests, row_lists, row_other_tests, row_other_lists, shape_firsts}
use Rattle.field_text.specs.Rows.{shape_counts, holds_in, values_in, row_in, row_text, rows_from, rows_text, shape_rows, shape_text}
use Rattle.field_text.proofs.Shapes.{each_up_to}

bits_length : (high low : ℕ) → length (bits_text high low) ≤ 41
bits_length high low = go (eqb high low)
  where
    go : (t : Bool) → length (cond t (decimal_text high) (decimal_text high ++ ascii ":" ++ decimal_text low)) ≤ 41
    go true = omega (arith, decimal_length high)
    go false = simp length-append (omega (arith, decimal_length high, decimal_length low))

line_length : (n : Name) (high low value : ℕ) → length n.label ≤ 16 → length (meaning_of n.values value) ≤ 128
    → length (line_text n high low value) ≤ 208
line_length n high low value l m = simp length-append (omega (arith, l, bits_length high low, hex_length value, m))

-- what a row says is from a list, or nothing
choice_length : (t u : Bool) (m n value : ℕ) → length (meaning_of (cond t (values_at m) (cond u (values_at n) [])) value) ≤ 128
choice_length true u m n value = meaning_length m value
choice_length false true m n value = meaning_length n value
choice_length false false m n value = omega arith

row_length : (w i : ℕ) → length (row_text w (row_in w i)) ≤ 208
unfolding row_in values_in
row_length w i =
    line_length (row_in w i).name (get_or row_highs i 0) (get_or row_lows i 0) (field_of w (get_or row_highs i 0) (get_or row_lows i 0))
    (label_length (get_or row_labels i 0))
    (choice_length (holds_in w (get_or row_tests i 0)) (holds_in w (get_or row_other_tests i 0)) (get_or row_lists i 0) (get_or row_other_lists i 0)
    (field_of w (get_or row_highs i 0) (get_or row_lows i 0)))

rows_length : (w i n : ℕ) → length (rows_text w (rows_from w i n)) ≤ 208 * n
rows_length w i zero = omega arith
rows_length w i (suc n) =
    rw (length-append (row_text w (row_in w i)) (rows_text w (rows_from w (suc i) n))) (omega (arith, row_length w i, rows_length w (suc i) n))

count_few : (shape : ℕ) → get_or shape_counts shape 0 ≤ 15
unfolding shape_counts
count_few = each_up_to 15 shape_counts tt

pub shape_length : (shape w : ℕ) → length (shape_text shape w) ≤ 3120
unfolding shape_rows
shape_length shape w = omega (arith, rows_length w (get_or shape_firsts shape 0) (get_or shape_counts shape 0), count_few shape)
