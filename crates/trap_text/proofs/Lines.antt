-- The lines of the editions below a number, by one edition more.
-- Assumes nothing.
use mathlib.Core.Bool.{cond}
use mathlib.Core.List.{List, []}
use Prim.Native.Nat.{ℕ, ◌+◌}
use native.Mathlib.Numerals.{add-one}
use Rattle.bits.specs.Field.{bit_of}
use Rattle.text.specs.Append.{Extends}
use Rattle.text.specs.declared.Text.{Text}
use Rattle.text.proofs.Appending.{extends_both}
use Rattle.trap_text.specs.Shown.{lines_below}

pub lines_more : (mask : ℕ) (line : ℕ → List ℕ) {old middle new : Text} (n : ℕ) → Extends (lines_below n mask line) old middle
    → Extends (cond (bit_of mask n) (line n) []) middle new → Extends (lines_below (n + 1) mask line) old new
unfolding lines_below
lines_more mask line n a b = rw (add-one n) (extends_both a b)
