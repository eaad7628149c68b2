-- Laws of the classes where IL must be 1.
-- Assumes nothing.
use mathlib.Core.Path.{◌≡◌, ◌∙◌, sym, ap}
use mathlib.Core.Bool.{Bool, false, not, ◌&&◌, ◌||◌}
use Prim.Native.Nat.{ℕ}
use lib.Dec.{eqb}
use Rattle.iss.specs.Il.{wide_only, il_needed}

-- ISV is asked for at class 0x24 alone
pub needed_ignores_isv : (c : ℕ) → eqb c 0x24 ≡ false → (a b : Bool) → il_needed c a ≡ il_needed c b
needed_ignores_isv c other a b =
    let others = eqb c 0x00 || eqb c 0x0E || eqb c 0x20 || wide_only c in
    ap (λ (t : Bool). others || t && not a) other ∙ sym (ap (λ (t : Bool). others || t && not b) other)
