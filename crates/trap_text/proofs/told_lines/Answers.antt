-- `trap_text::told_lines` meets its contract: what is said of the trap comes after its line, where it is asked for.
-- Assumes nothing.
use Rattle.text.proofs.Appending.{extends_both, extends_none}
use Rattle.trap_text.proofs.told_lines.Goals as goal

pub returns-then-explained : goal.returns-then-explained
returns-then-explained c =
    let tested = c in
    rw tested.if-explained.true (extends_both tested.shown_line.ensures c.trap_said.ensures)

pub returns-else-explained : goal.returns-else-explained
returns-else-explained c = rw c.if-explained.false (extends_both c.shown_line.ensures (extends_none _))
