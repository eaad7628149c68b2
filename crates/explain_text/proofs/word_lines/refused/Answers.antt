use Rattle.text.proofs.Appending.{extends_both}
use Rattle.explain_text.proofs.word_lines.refused.Goals as goal

pub returns : goal.returns
returns c =
    extends_both c.refusal_lines.ensures c.others.ensures
