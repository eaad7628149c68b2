-- The lines of the rows that are left, appended to the text so far, give those of all.
use Prim.Native.Nat.{◌+◌, ◌-◌}
use Rattle.text.specs.Append.{Extends}
use Rattle.text.specs.declared.Text.{Text}
use Rattle.field_text.specs.Rows.{rows_from, rows_text}
use Rattle.field_text.proofs.rows_lines.Given as goal

abbrev pub invariant-loop-i : goal.invariant-loop-i
invariant-loop-i l =
    (all : Text) → Extends (rows_text l.word (rows_from l.word l.i (l.first + l.n - l.i))) l.text all
    → Extends (rows_text l.word (rows_from l.word l.first l.n)) l.initial.text all
