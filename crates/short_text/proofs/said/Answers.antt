use mathlib.Core.Path.{refl}
use Rattle.short_text.proofs.Readings.{read_said_lem}
use Rattle.short_text.proofs.said.Goals as goal

pub returns : goal.returns
returns c =
    let s = c.args in
    rw (c.read.ensures.answer, read_said_lem s.edition s.hsr _ refl) at c.answer.ensures
