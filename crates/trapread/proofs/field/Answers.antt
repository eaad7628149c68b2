use Rattle.text.proofs.Appending.{extends_both}
use Rattle.trapread.proofs.field.Goals as goal

pub returns : goal.returns
returns c = extends_both c.append.ensures c.append_decimal.ensures
