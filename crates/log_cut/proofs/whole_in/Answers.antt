-- `log_cut::whole_in` meets its contract: what the cut tells.
-- Assumes nothing.
use mathlib.Core.Path.{sym, ◌∙◌}
use Rattle.log_cut.proofs.Standings.{told_behind, told_within}
use Rattle.log_cut.proofs.whole_in.Goals as goal

pub returns-in-Entries : goal.returns-in-Entries
returns-in-Entries c =
    let found = c in
    let cut = found in
    let a = cut.args in
    told_behind a.size a.rest.now (sym cut.cut_in.ensures ∙ found.in-Entries.is)

pub returns-in-Count : goal.returns-in-Count
returns-in-Count c =
    let cut = c in
    let a = cut.args in
    told_within a.size a.rest.now (sym cut.cut_in.ensures ∙ c.in-Count.is)
