-- Laws of the IL rule.
-- Assumes nothing.
use mathlib.Core.Path.{◌≡◌, ap}
use mathlib.Core.Bool.{Bool, false}
use Prim.Native.Nat.{ℕ}
use lib.Dec.{eqb}
use Rattle.bits.specs.Test.{implies}
use Rattle.iss.proofs.Lengths.{needed_ignores_isv}
use Rattle.short_rule.specs.Il.{il_rule}

-- the IL rule asks for ISV at class 0x24 alone
pub ignores_isv : (c : ℕ) → eqb c 0x24 ≡ false → (a b l : Bool) → il_rule c a l ≡ il_rule c b l
ignores_isv c other a b l = ap (λ (t : Bool). implies t l) (needed_ignores_isv c other a b)
