use mathlib.Core.Path.{ap}
use Rattle.text.proofs.Appending.{extends_both}
use Rattle.explain_text.specs.Trap.{addresses_text}
use Rattle.explain_text.proofs.address_lines.addresses.Goals as goal

pub returns-in-Abort : goal.returns-in-Abort
returns-in-Abort c =
    rw (ap addresses_text c.in-Abort.is)
    (extends_both c.virtual_line.ensures c.intermediate_line.ensures)

pub returns-in-Addressed : goal.returns-in-Addressed
returns-in-Addressed c =
    rw (ap addresses_text c.in-Addressed.is) (extends_both c.virtual_line-in-Addressed.ensures c.append.ensures)

pub returns-in-Plain : goal.returns-in-Plain
returns-in-Plain c = rw (ap addresses_text c.in-Plain.is) c.append-in-Plain.ensures
