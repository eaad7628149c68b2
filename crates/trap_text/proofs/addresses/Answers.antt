-- `trap_text::addresses` meets its contract: each kind of trap has its addresses.
-- Assumes nothing.
use mathlib.Core.Path.{ap}
use Rattle.text.proofs.Appending.{extends_both, extends_none}
use Rattle.trap_text.specs.Shown.{taken_text}
use Rattle.trap_text.proofs.addresses.Goals as goal

pub returns-in-Abort : goal.returns-in-Abort
returns-in-Abort c =
    rw (ap taken_text c.in-Abort.is)
    (extends_both (extends_both c.append.ensures c.virtual_field.ensures)
    c.intermediate_field.ensures)

pub returns-in-Addressed : goal.returns-in-Addressed
returns-in-Addressed c =
    rw (ap taken_text c.in-Addressed.is)
    (extends_both (extends_both c.append.ensures
    c.virtual_field-in-Addressed.ensures) (extends_none _))

pub returns-in-Plain : goal.returns-in-Plain
returns-in-Plain c =
    rw (ap taken_text c.in-Plain.is)
    (extends_both (extends_both c.append.ensures (extends_none _)) (extends_none _))
