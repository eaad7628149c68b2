-- `log_writer::lists::domains_fit` meets its contract.
-- Assumes nothing.
use mathlib.Core.Path.{sym, ◌∙◌}
use native.Mathlib.Omega.{arith}
use Rattle.log_section.proofs.Domains.{wide_here, fits_here, none_left}
use Rattle.log_writer.proofs.lists.domains_fit.Goals as goal

pub returns-then-n : goal.returns-then-n
returns-then-n c =
    let l = c.loop-n in
    sym (wide_here c.args.injections.now l.n-index (omega arith) (omega arith)) ∙ l.invariant.1

pub loop-n-preserved : goal.loop-n-preserved
loop-n-preserved c =
    let l = c.loop-n in
    (omega arith, sym (fits_here c.args.injections.now l.n-index (omega arith) (omega arith)) ∙ l.invariant.1)

pub returns : goal.returns
returns c =
    let l = c.loop-n in
    sym (none_left c.args.injections.now l.n-index (omega arith)) ∙ l.invariant.1
