-- `trap_text::answer` meets its contract: the text of the answer that was found.
-- Assumes nothing.
use mathlib.Core.Path.{ap}
use Rattle.trap_text.specs.Shown.{answer_text}
use Rattle.trap_text.proofs.answer.Goals as goal

pub returns-in-Ok : goal.returns-in-Ok
returns-in-Ok c = rw (ap answer_text c.in-Ok.is) c.addresses.ensures

pub returns-in-Err : goal.returns-in-Err
returns-in-Err c = rw (ap answer_text c.in-Err.is) c.refusal.ensures
