use mathlib.Core.Path.{refl}
use Rattle.explain_text.proofs.Said.{answer_said_lem}
use Rattle.explain_text.proofs.trap_lines.trap_said.Goals as goal

pub returns : goal.returns
returns c =
    let s = c.args in
    rw (c.read.ensures.answer, answer_said_lem s.edition s.esr s.far s.hpfar _ refl) at c.answer.ensures
