use mathlib.Core.Path.{sym, ◌∙◌}
use Rattle.text.proofs.Appending.{extends_both, extends_none}
use Rattle.refusal_text.proofs.edition_in.Goals as goal

pub returns-then-bit : goal.returns-then-bit
returns-then-bit c = rw (sym c.bit.ensures ∙ c.if-bit.true) (extends_both c.append.ensures c.append_hex.ensures)

pub returns-else-bit : goal.returns-else-bit
returns-else-bit c = rw (sym c.bit.ensures ∙ c.if-bit.false) (extends_none _)
