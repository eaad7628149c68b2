use borrow.Author.Tests.{ne_eqb}
use Rattle.text.proofs.Appending.{extends_both}
use Rattle.field_text.proofs.field.bits_text.Goals as goal

pub returns-then-high-low : goal.returns-then-high-low
returns-then-high-low c =
    simp (ne_eqb _ _ c.if-high-low.true)
    (extends_both (extends_both c.append_decimal.ensures c.append.ensures) c.append_decimal-then-high-low.ensures)
