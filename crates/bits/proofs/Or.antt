-- `|` of equal numbers.
-- Assumes nothing.
use mathlib.Core.Path.{◌≡◌, ap₂}
use Prim.Native.Nat.{ℕ}
use lib.Bits.{bit_or}

infixl 30 ◌also◌
pub ◌also◌ : {a a' b b' : ℕ} → a ≡ a' → b ≡ b' → bit_or a b ≡ bit_or a' b'
p also q = ap₂ bit_or p q
