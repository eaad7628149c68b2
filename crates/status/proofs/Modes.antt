-- The accepted modes: no mode is 32 or more.
use mathlib.Core.Path.{◌≡◌, refl, sym, ◌∙◌}
use mathlib.Core.Bool.{Bool, true, false, true≢false}
use Prim.Native.Nat.{ℕ, ◌≤◌, ◌<◌}
use native.Mathlib.Omega.{arith}
use lib.Dec.{ltb}
use borrow.Author.Tests.{ne_eqb, ltb-true, ltb-false}
use Rattle.status.specs.Mode.{is_mode}

no_mode : (m : ℕ) → 32 ≤ m → is_mode m ≡ false
unfolding is_mode
no_mode m h =
    simp (
      ne_eqb m 0x10 (omega arith),
      ne_eqb m 0x11 (omega arith),
      ne_eqb m 0x12 (omega arith),
      ne_eqb m 0x13 (omega arith),
      ne_eqb m 0x17 (omega arith),
      ne_eqb m 0x1B (omega arith),
      ne_eqb m 0x1F (omega arith),
    )

-- a mode is a number of five bits
pub mode_below : (m : ℕ) → is_mode m ≡ true → m < 32
mode_below m h = by (ltb m 32) refl
  where
    by : (b : Bool) → ltb m 32 ≡ b → m < 32
    by true e = ltb-true m 32 e
    by false e = absurd (true≢false (sym h ∙ no_mode m (ltb-false m 32 e)))
