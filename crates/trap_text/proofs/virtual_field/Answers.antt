-- `trap_text::virtual_field` meets its contract: an address that is not known adds nothing.
-- Assumes nothing.
use mathlib.Core.Path.{ap}
use Rattle.text.proofs.Appending.{extends_both, extends_none}
use Rattle.trap_text.specs.Shown.{virtual_text}
use Rattle.trap_text.proofs.virtual_field.Goals as goal

pub returns-in-Some : goal.returns-in-Some
returns-in-Some c = rw (ap virtual_text c.in-Some.is)
    (extends_both c.append.ensures c.hex_field.ensures)
