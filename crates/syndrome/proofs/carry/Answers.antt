-- `syndrome::carry` meets its contract: what the writer put out, the reader gives back as demand 3 says.
-- Assumes nothing.
use mathlib.Core.Path.{◌∙◌, sym, ap}
use Rattle.std.proofs.lemmas.Result.{err_from_is_err_and}
use Rattle.std.specs.Prelude.{Ok, Err}
use Rattle.syndrome.proofs.Demand3.{read_back_lem}
use Rattle.syndrome.proofs.Promises.{carries}
use Rattle.syndrome.proofs.Steps.{carried_word, carried_unwritten}
use Rattle.syndrome.proofs.carry.Goals as goal

pub returns : goal.returns
returns c =
    let a = c.args in
    let put = sym c.write.ensures.answer ∙ c.in_ok-esr.was in
    carries a.origin a.writer a.reader a.r
    (ap Ok (c.read.ensures.answer ∙ read_back_lem a.origin a.writer a.reader c.in_ok-esr.esr a.r put)
    ∙ sym (carried_word a.origin a.writer a.reader a.r c.in_ok-esr.esr put))

pub returns-in_err-esr : goal.returns-in_err-esr
returns-in_err-esr c =
    let p = err_from_is_err_and c.from_residual.result c.from_residual.ensures.1 in
    let a = c.args in
    carries a.origin a.writer a.reader a.r
    (p.1 ∙ ap Err p.2 ∙ sym (carried_unwritten a.origin a.writer a.reader a.r c.in_err-esr.field-0.0
    (sym c.write.ensures.answer ∙ c.in_err-esr.was)))
