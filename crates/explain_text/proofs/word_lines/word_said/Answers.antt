use mathlib.Core.Path.{refl}
use Rattle.explain_text.proofs.Said.{read_said_lem}
use Rattle.explain_text.proofs.word_lines.word_said.Goals as goal

pub returns : goal.returns
returns c =
    let s = c.args in
    rw (c.read.ensures.answer, read_said_lem s.edition s.esr _ refl) at c.answer.ensures
