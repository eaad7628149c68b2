use Rattle.text.proofs.Appending.{extends_both}
use Rattle.refusal_text.proofs.others.Goals as goal

pub returns-then-short : goal.returns-then-short
returns-then-short c = rw c.if-short.true (extends_both c.short_asked.ensures c.editions_line.ensures)

pub returns-else-short : goal.returns-else-short
returns-else-short c = rw c.if-short.false (extends_both c.long_asked.ensures c.editions_line-else-short.ensures)
