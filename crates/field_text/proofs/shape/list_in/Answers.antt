use Rattle.names.specs.Table.{values_at, sources}
use Rattle.field_text.specs.Rows.{row_tests, row_lists, row_other_tests, row_other_lists, values_in}
use Rattle.field_text.proofs.Shapes.{test_known, other_known}
use Rattle.field_text.proofs.shape.list_in.Goals as goal

pub holds-requires : goal.holds-requires
unfolding row_tests
holds-requires c = rw c.from.ensures (test_known c.args.i)

pub returns-then-holds : goal.returns-then-holds
unfolding values_in row_tests row_lists
returns-then-holds c = rw (c.from-then-holds.ensures, ← c.from.ensures, ← c.holds.ensures, c.if-holds.true)

pub holds-requires-2 : goal.holds-requires-2
unfolding row_other_tests
holds-requires-2 c = rw c.from-2.ensures (other_known c.args.i)

pub returns-then-holds-2 : goal.returns-then-holds-2
unfolding values_in row_tests row_other_tests row_other_lists
returns-then-holds-2 c =
    let second = c in
    let first = second in
    rw (
      c.from-then-holds-2.ensures,
      ← first.from.ensures,
      ← first.holds.ensures,
      second.if-holds.false,
      ← second.from-2.ensures,
      ← second.holds-2.ensures,
      c.if-holds-2.true,
    )

pub returns : goal.returns
unfolding values_in row_tests row_other_tests values_at sources
returns c =
    let second = c in
    let first = second in
    rw (
      ← first.from.ensures,
      ← first.holds.ensures,
      second.if-holds.false,
      ← second.from-2.ensures,
      ← second.holds-2.ensures,
      c.if-holds-2.false,
    )
