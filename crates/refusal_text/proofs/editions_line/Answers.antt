use Rattle.text.proofs.Appending.{extends_both}
use Rattle.refusal_text.proofs.editions_line.Goals as goal

pub returns : goal.returns
returns c = extends_both (extends_both c.append.ensures c.editions_below.ensures) c.append-2.ensures
