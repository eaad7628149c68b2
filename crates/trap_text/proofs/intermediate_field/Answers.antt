-- `trap_text::intermediate_field` meets its contract: an address that is not known adds nothing.
-- Assumes nothing.
use mathlib.Core.Path.{ap, ◌∙◌}
use Rattle.std.specs.Prelude.{Some}
use Rattle.text.proofs.Appending.{extends_both}
use Rattle.trap_text.specs.Shown.{intermediate_text}
use Rattle.trap_text.proofs.intermediate_field.Goals as goal

pub returns-in-Page : goal.returns-in-Page
returns-in-Page c =
    rw (ap intermediate_text (c.in-Some.is ∙ ap Some c.in-Page.is)) (extends_both c.append.ensures c.hex_field.ensures)

pub returns-in-Byte : goal.returns-in-Byte
returns-in-Byte c =
    rw (ap intermediate_text (c.in-Some.is ∙ ap Some c.in-Byte.is)) (extends_both c.append-in-Byte.ensures c.hex_field-in-Byte.ensures)
