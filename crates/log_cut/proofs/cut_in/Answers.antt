-- `log_cut::cut_in` meets its contract: within the count where four bytes are not there.
-- Assumes nothing.
use mathlib.Core.Path.{sym, ◌∙◌}
use native.Mathlib.Omega.{arith}
use Rattle.log_cut.proofs.Standings.{count_whole, count_cut, cut_behind, cut_within}
use Rattle.log_cut.proofs.cut_in.Goals as goal

pub overflow_sub-behind : goal.overflow_sub-behind
overflow_sub-behind c =
    let matched = c in
    omega (arith, count_whole matched.args.rest.now (sym matched.front.ensures ∙ c.in-Some.is))

pub returns-in-Some : goal.returns-in-Some
returns-in-Some c =
    let found = c in
    let matched = found in
    let a = matched.args in
    let known = count_whole a.rest.now (sym matched.front.ensures ∙ found.in-Some.is) in
    rw (c.min-whole.ensures, known.1) (cut_behind a.size a.rest.now known.0)

pub returns-in-None : goal.returns-in-None
returns-in-None c =
    let matched = c in
    let a = matched.args in
    cut_within a.size a.rest.now (count_cut a.rest.now (sym matched.front.ensures ∙ c.in-None.is))
