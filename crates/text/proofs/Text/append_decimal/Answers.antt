-- The digits that `io` writes are the numeral's.
use Rattle.std.proofs.Common.{◌∙◌, arith}
use lib.Dec.{lit<}
use Rattle.text.specs.Numeral.{decimal_text}
use Rattle.text.proofs.Numerals.{digits_numeral}
use Rattle.text.proofs.Text.append_decimal.Goals as goal

pub returns : goal.returns
unfolding decimal_text
returns c =
    let k = c.decimal-k in
    let e = k.ensures.digits ∙ digits_numeral 10 (lit< tt) 20 k.result c.args.n (lit< tt) (omega arith) k.ensures.len in
    rw e at c.append.ensures
