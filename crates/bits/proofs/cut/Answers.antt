-- `bits::cut` meets its contract: below 64 bits the mask is the remainder by a power of two.
-- Assumes nothing.
use mathlib.Core.Path.{◌∙◌, ap}
use Prim.Native.Nat.{ℕ, ◌-◌}
use lib.Bits.{bit_and, and_mask}
use Rattle.bits.proofs.Powers.{one_shifted}
use Rattle.bits.proofs.cut.Goals as goal

pub returns-then-width-lt64 : goal.returns-then-width-lt64
returns-then-width-lt64 c =
    let a = c.args in
    ap (λ (n : ℕ). bit_and a.value (n - 1)) (one_shifted a.width c.if-width-lt64.true) ∙ and_mask a.value a.width
