-- `log_pieces::entries::count` meets its contract: those that stand whole, or none.
-- Assumes nothing.
use mathlib.Core.Path.{sym, ◌∙◌}
use Rattle.log_pieces.proofs.Shown.{count_shown, count_none}
use Rattle.log_pieces.proofs.entries.count.Goals as goal

pub returns-then-is_shown : goal.returns-then-is_shown
returns-then-is_shown c =
    let tested = c in
    let start = tested in
    c.count.ensures
    ∙ count_shown start.args.log.now start.args.passed start.requires (sym tested.is_shown.ensures ∙ tested.if-is_shown.true)

pub returns : goal.returns
returns c =
    let a = c.args in
    count_none a.log.now a.passed (sym c.is_shown.ensures ∙ c.if-is_shown.false)
