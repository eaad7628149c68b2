use Rattle.text.proofs.Digits.{base_16}
use Rattle.text.proofs.hex_digit.Goals as goal

pub returns : goal.returns
returns c = base_16 c.args.byte c.to_digit.result (rw c.from.ensures at c.to_digit.ensures.value)
