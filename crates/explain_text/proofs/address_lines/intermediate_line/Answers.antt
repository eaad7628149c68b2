use mathlib.Core.Path.{ap, ◌∙◌}
use Rattle.std.specs.Prelude.{Some}
use Rattle.text.proofs.Appending.{extends_both}
use Rattle.explain_text.specs.Trap.{intermediate_text}
use Rattle.explain_text.proofs.address_lines.intermediate_line.Goals as goal

pub returns-in-Page : goal.returns-in-Page
returns-in-Page c =
    rw (ap intermediate_text (c.in-Some.is ∙ ap Some c.in-Page.is))
    (extends_both (extends_both c.append-2.ensures c.append_hex.ensures) c.append-in-Page.ensures)

pub returns-in-Byte : goal.returns-in-Byte
returns-in-Byte c =
    rw (ap intermediate_text (c.in-Some.is ∙ ap Some c.in-Byte.is))
    (extends_both (extends_both c.append-2.ensures c.append_hex-in-Byte.ensures) c.append-in-Byte.ensures)
