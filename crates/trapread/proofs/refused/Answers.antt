use Rattle.text.proofs.Appending.{extends_both}
use Rattle.trapread.proofs.refused.Goals as goal

pub returns : goal.returns
returns c =
    extends_both
    (extends_both
    (extends_both (extends_both c.append.ensures (rw c.number.ensures at c.field.ensures)) (rw c.mask.ensures at c.field-2.ensures))
    (rw c.count.ensures at c.field-3.ensures))
    c.append-2.ensures
