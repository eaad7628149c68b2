-- `log_pieces::piece` meets its contract: how the log was read comes first.
-- Assumes nothing.
use mathlib.Core.Path.{ap, ◌∙◌}
use Rattle.log_pieces.specs.Text.{first_text}
use Rattle.log_pieces.proofs.Placed.{first_piece, later_piece, same_text}
use Rattle.log_pieces.proofs.piece.Goals as goal

pub returns-then-i-eq0 : goal.returns-then-i-eq0
returns-then-i-eq0 c =
    let first = c in
    let read = first in
    let test = read in
    let a = test.args in
    same_text
    (ap first_text read.read_in.ensures.answer ∙ first_piece a.seen a.explained a.log.now a.i test.if-i-eq0.true)
    first.first_lines.ensures

pub returns-else-i-eq0 : goal.returns-else-i-eq0
returns-else-i-eq0 c =
    let test = c in
    let a = test.args in
    same_text (later_piece a.seen a.explained a.log.now a.i test.if-i-eq0.false) c.later_piece.ensures
