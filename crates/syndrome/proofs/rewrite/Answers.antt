-- `syndrome::rewrite` meets its contract: writing the record that was read gives the same word.
-- Assumes nothing.
use mathlib.Core.Path.{◌∙◌, sym, ap}
use Rattle.std.proofs.lemmas.Result.{err_from_is_err_and}
use Rattle.std.specs.Prelude.{Err}
use Rattle.syndrome.proofs.Demand2.{read_as_written}
use Rattle.syndrome.proofs.Promises.{rewrites}
use Rattle.syndrome.proofs.Steps.{rewritten_taken, rewritten_refused}
use Rattle.syndrome.proofs.rewrite.Goals as goal

pub returns : goal.returns
returns c =
    let a = c.args in
    let took = sym c.read.ensures.answer ∙ c.in_ok-r.was in
    rewrites a.origin a.edition a.esr
    (c.write.ensures.answer ∙ (read_as_written a.origin a.edition a.esr c.in_ok-r.r).0 took
    ∙ sym (rewritten_taken a.origin a.edition a.esr c.in_ok-r.r took))

pub returns-in_err-r : goal.returns-in_err-r
returns-in_err-r c =
    let p = err_from_is_err_and c.from_residual.result c.from_residual.ensures.1 in
    let a = c.args in
    rewrites a.origin a.edition a.esr
    (p.1 ∙ ap Err p.2 ∙ sym (rewritten_refused a.origin a.edition a.esr c.in_err-r.field-0.0 (sym c.read.ensures.answer ∙ c.in_err-r.was)))
