-- `iss::il_needed` meets its contract: the word of the classes has a bit for each, and none from 64 on is among them.
-- Assumes nothing.
use mathlib.Core.Path.{◌≡◌, ◌∙◌, ap}
use mathlib.Core.Bool.{Bool, false, not, ◌&&◌, ◌||◌, and-false}
use Prim.Native.Nat.{ℕ, ◌≤◌}
use native.Mathlib.Omega.{arith}
use borrow.Author.Tests.{lt-leb, ne_eqb}
use lib.Dec.{eqb}
use Rattle.bits.proofs.Sets.{in_set}
use Rattle.iss.specs.Il.{wide_only}
use Rattle.iss.proofs.il_needed.Goals as goal

-- the classes where IL must be 1 whatever ISV is
abbrev always : ℕ → Bool
always class = eqb class 0x00 || eqb class 0x0E || eqb class 0x20 || wide_only class

none : (class : ℕ) → 64 ≤ class → always class ≡ false
none class h =
    simp (
      lt-leb class 0x08 (omega arith),
      ne_eqb class 0x00 (omega arith),
      ne_eqb class 0x0C (omega arith),
      ne_eqb class 0x0E (omega arith),
      ne_eqb class 0x12 (omega arith),
      ne_eqb class 0x13 (omega arith),
      ne_eqb class 0x20 (omega arith),
      and-false,
    )

pub returns : goal.returns
returns c =
    let a = c.before.args in
    ap (λ (b : Bool). b || eqb a.class 0x24 && not a.isv) (c.bit.ensures ∙ in_set _ tt always none tt a.class)
