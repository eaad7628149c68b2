use Rattle.text.proofs.Appending.{extends_both}
use Rattle.short_text.proofs.taken.Goals as goal

pub returns : goal.returns
returns c =
    extends_both c.append.ensures c.word_lines.ensures
