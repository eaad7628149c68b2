-- The rows of a shape, one by one.
-- Assumes nothing.
use mathlib.Core.Path.{◌≡◌}
use mathlib.Core.List.{[], ◌++◌}
use Prim.Native.Nat.{ℕ, suc, ◌+◌, ◌-◌, ◌≤◌, ◌<◌}
use native.Mathlib.Omega.{arith}
use Rattle.names.proofs.Tables.{past_end}
use Rattle.field_text.specs.Rows.{shape_firsts, shape_counts, row_in, row_text, rows_from, rows_text, shape_rows, shape_text}

pub next_row : (w i end : ℕ) → i < end
    → rows_text w (rows_from w i (end - i)) ≡ row_text w (row_in w i) ++ rows_text w (rows_from w (i + 1) (end - (i + 1)))
next_row w i end h =
    let more : end - i ≡ suc (end - (i + 1)) = omega arith in
    let on : i + 1 ≡ suc i = omega arith in
    rw (more, on)

-- a shape that there is none of has none
pub none_said : (w shape : ℕ) → 129 ≤ shape → shape_text shape w ≡ []
unfolding shape_rows shape_firsts shape_counts
none_said w shape h = rw (past_end shape_firsts shape 0 h, past_end shape_counts shape 0 h)
