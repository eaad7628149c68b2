use mathlib.Core.Path.{ap}
use Rattle.text.proofs.Appending.{extends_both}
use Rattle.explain_text.specs.Trap.{virtual_text}
use Rattle.explain_text.proofs.address_lines.virtual_line.Goals as goal

pub returns-in-Some : goal.returns-in-Some
returns-in-Some c =
    rw (ap virtual_text c.in-Some.is)
    (extends_both (extends_both c.append.ensures c.append_hex.ensures) c.append-in-Some.ensures)
