-- `log_text::numbered` meets its contract: one text after another.
-- Assumes nothing.
use Rattle.text.proofs.Appending.{extends_both}
use Rattle.log_text.proofs.numbered.Goals as goal

pub returns : goal.returns
returns c = extends_both (extends_both c.append.ensures c.decimal_field.ensures) c.append-2.ensures
