-- The modes that a guest runs in as one constant word: bit m of it is set exactly for the accepted modes m.
-- Assumes nothing.
use mathlib.Core.Path.{◌≡◌, refl, sym, ap, ◌∙◌}
use mathlib.Core.Bool.{Bool, true, false}
use Prim.Native.Nat.{ℕ, ◌<◌}
use native.Mathlib.Omega.{arith}
use lib.Dec.{ltb, eqb, lit<}
use borrow.Author.Tests.{ltb-true, ltb-false}
use Rattle.bits.specs.Field.{bit_of}
use Rattle.bits.proofs.Every.{below}
use Rattle.bits.proofs.Powers.{field_out}
use Rattle.status.specs.Mode.{is_mode}
use Rattle.status.proofs.Modes.{mode_below}

small : (m : ℕ) → m < 64 → bit_of 0x888F_0000 m ≡ is_mode m
unfolding is_mode
small = below (λ m. bit_of 0x888F_0000 m) is_mode 64 tt

-- no mode is 64 or more
large : (m : ℕ) → ltb m 64 ≡ false → is_mode m ≡ false
large m h = by (is_mode m) refl
  where
    by : (b : Bool) → is_mode m ≡ b → is_mode m ≡ false
    by true e = absurd (omega (arith, mode_below m e, ltb-false m 64 h))
    by false e = e

pub mode_bit : (m : ℕ) → bit_of 0x888F_0000 m ≡ is_mode m
mode_bit m = by (ltb m 64) refl
  where
    by : (b : Bool) → ltb m 64 ≡ b → bit_of 0x888F_0000 m ≡ is_mode m
    by true e = small m (ltb-true m 64 e)
    by false e =
        let l = ltb-false m 64 e in
        ap (λ (d : ℕ). eqb d 1) (field_out 0x888F_0000 m m (lit< tt) (omega (arith, l))) ∙ sym (large m e)
