-- The digits that `io` writes are the numeral's.
use Rattle.std.proofs.Common.{◌∙◌, arith}
use lib.Dec.{lit<}
use Rattle.text.specs.Numeral.{hex_text}
use Rattle.text.proofs.Numerals.{digits_numeral}
use Rattle.text.proofs.Text.append_hex.Goals as goal

pub returns : goal.returns
unfolding hex_text
returns c =
    let k = c.hex-k in
    let e = k.ensures.digits ∙ digits_numeral 16 (lit< tt) 16 k.result c.args.n (lit< tt) (omega arith) k.ensures.len in
    rw e at c.append.ensures
