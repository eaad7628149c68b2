use Rattle.text.proofs.Appending.{extends_both}
use Rattle.refusal_text.proofs.Why.{reasons_at}
use Rattle.refusal_text.proofs.why_line.Goals as goal

pub returns : goal.returns
returns c = extends_both (extends_both c.append.ensures (rw reasons_at at c.meaning.ensures)) c.append-2.ensures
