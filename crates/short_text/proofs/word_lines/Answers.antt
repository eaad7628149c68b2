use Rattle.short_text.specs.Inner.{word_text}
use Rattle.short_text.proofs.word_lines.Goals as goal

pub returns : goal.returns
unfolding word_text
returns c =
    rw (c.shape-n.ensures, c.field32.ensures, c.field32-2.ensures) at c.lines.ensures
