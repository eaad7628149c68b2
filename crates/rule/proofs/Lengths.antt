-- Laws of the IL rule.
-- Assumes nothing.
use mathlib.Core.Path.{◌≡◌, ap}
use mathlib.Core.Bool.{Bool, false, ◌||◌}
use Prim.Native.Nat.{ℕ}
use lib.Dec.{eqb}
use Rattle.bits.specs.Among.{among}
use Rattle.bits.specs.Test.{implies}
use Rattle.iss.proofs.Lengths.{needed_ignores_isv}
use Rattle.record.specs.Origin.{from_aarch64}
use Rattle.record.specs.declared.origin.Origin.{Origin}
use Rattle.rule.specs.Il.{il_always, il_rule}

-- the IL rule asks for ISV at class 0x24 alone
pub ignores_isv : (o : Origin) (c : ℕ) → eqb c 0x24 ≡ false → (a b l : Bool) → il_rule o c a l ≡ il_rule o c b l
ignores_isv o c other a b l = ap (λ (t : Bool). implies (from_aarch64 o || t || among il_always c) l) (needed_ignores_isv c other a b)
