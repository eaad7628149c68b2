-- `log_text::edition_field` meets its contract: a number that is an edition's is a digit.
-- Assumes nothing.
use borrow.Author.Tests.{lt-ltb, le-ltb}
use native.Mathlib.Omega.{arith}
use Rattle.text.proofs.Appending.{extends_both}
use Rattle.log_text.proofs.edition_field.Goals as goal

pub returns-then-edition-lt-EDITIONS : goal.returns-then-edition-lt-EDITIONS
returns-then-edition-lt-EDITIONS c =
    rw (lt-ltb c.args.edition 16 (omega (arith, c.if-edition-lt-EDITIONS.true))) c.hex_field.ensures

pub returns-else-edition-lt-EDITIONS : goal.returns-else-edition-lt-EDITIONS
returns-else-edition-lt-EDITIONS c =
    rw (le-ltb c.args.edition 16 (omega (arith, c.if-edition-lt-EDITIONS.false)))
    (extends_both c.decimal_field.ensures c.append.ensures)
