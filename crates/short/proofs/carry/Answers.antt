-- `short::carry` meets its contract: what the writer put out, the reader gives back as demand 3 says.
-- Assumes nothing.
use mathlib.Core.Path.{◌∙◌, sym, ap}
use Rattle.std.proofs.lemmas.Result.{err_from_is_err_and}
use Rattle.std.specs.Prelude.{Ok, Err}
use Rattle.short.proofs.Demand3.{read_back_lem}
use Rattle.short.proofs.Promises.{carries}
use Rattle.short.proofs.Steps.{carried_word, carried_unwritten}
use Rattle.short.proofs.carry.Goals as goal

pub returns : goal.returns
returns c =
    let a = c.args in
    let put = sym c.write.ensures.answer ∙ c.in_ok-hsr.was in
    carries a.writer a.reader a.r
    (ap Ok (c.read.ensures.answer ∙ read_back_lem a.writer a.reader c.in_ok-hsr.hsr a.r put)
    ∙ sym (carried_word a.writer a.reader a.r c.in_ok-hsr.hsr put))

pub returns-in_err-hsr : goal.returns-in_err-hsr
returns-in_err-hsr c =
    let p = err_from_is_err_and c.from_residual.result c.from_residual.ensures.1 in
    let a = c.args in
    carries a.writer a.reader a.r
    (p.1 ∙ ap Err p.2
    ∙ sym (carried_unwritten a.writer a.reader a.r c.in_err-hsr.field-0.0 (sym c.write.ensures.answer ∙ c.in_err-hsr.was)))
