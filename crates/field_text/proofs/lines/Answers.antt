use Rattle.text.proofs.Appending.{extends_none}
use Rattle.field_text.specs.Rows.{shape_rows}
use Rattle.field_text.proofs.Steps.{none_said}
use Rattle.field_text.proofs.Shapes.{shape_within}
use Rattle.field_text.proofs.lines.Goals as goal

pub rows_lines-requires : goal.rows_lines-requires
rows_lines-requires c = rw (c.first.ensures, c.count.ensures) (shape_within _)

pub returns-then-shape-lt-SHAPES : goal.returns-then-shape-lt-SHAPES
unfolding shape_rows
returns-then-shape-lt-SHAPES c =
    let own = c in
    let count = own in
    rw (count.first.ensures, count.count.ensures) at own.rows_lines.ensures

pub returns-else-shape-lt-SHAPES : goal.returns-else-shape-lt-SHAPES
returns-else-shape-lt-SHAPES c = rw (none_said _ _ c.if-shape-lt-SHAPES.false) (extends_none _)
