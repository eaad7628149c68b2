-- `bits::bit` meets its contract: a shift and a mask are a field of one bit.
-- Assumes nothing.
use mathlib.Core.Path.{◌∙◌, sym, ap}
use Prim.Native.Nat.{ℕ, ◌/◌, ◌^◌}
use lib.Bits.{and_mask}
use lib.Dec.{eqb}
use Rattle.bits.proofs.Powers.{one_bit}
use Rattle.bits.proofs.bit.Goals as goal

pub returns-then-at-lt64 : goal.returns-then-at-lt64
returns-then-at-lt64 c =
    let a = c.args in
    ap (λ (n : ℕ). eqb n 1) (and_mask (a.word / 2 ^ a.at) 1 ∙ sym (one_bit a.word a.at))
