use Rattle.record_text.specs.Inner.{word_text}
use Rattle.record_text.proofs.word_lines.Goals as goal

pub returns : goal.returns
unfolding word_text
returns c = rw c.field32-class.ensures at c.lines.ensures
