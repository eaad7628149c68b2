use Rattle.text.proofs.Appending.{extends_both}
use Rattle.explain_text.proofs.word_lines.taken.Goals as goal

pub returns : goal.returns
returns c =
    extends_both c.append.ensures c.word_lines.ensures
