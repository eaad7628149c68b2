-- `log_text::decimal_field` meets its contract: one text after another.
-- Assumes nothing.
use Rattle.text.proofs.Appending.{extends_both}
use Rattle.log_text.proofs.decimal_field.Goals as goal

pub returns : goal.returns
returns c = extends_both c.append.ensures c.append_decimal.ensures
