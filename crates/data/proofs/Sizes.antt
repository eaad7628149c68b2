-- Ones above the low bits, joined with them.
use mathlib.Core.Path.{◌≡◌}
use mathlib.Core.Bool.{Bool, true, false, cond}
use Prim.Native.Nat.{ℕ, ◌+◌, ◌^◌, ◌<◌}
use native.Mathlib.Omega.{arith}
use lib.Bits.{bit_or, or_shifted}
use lib.Dec.{eqb}
use Rattle.bits.specs.Field.{field_of}
use Rattle.data.specs.Data.{cut_to, ones_above}

-- ones above the low bits and the low bits don't meet
above_byte : (x : ℕ) → x < 2 ^ 8 → bit_or 0xFFFF_FF00 x ≡ 0xFFFF_FF00 + x
above_byte x h = or_shifted 0xFF_FFFF 8 x h

above_half : (x : ℕ) → x < 2 ^ 16 → bit_or 0xFFFF_0000 x ≡ 0xFFFF_0000 + x
above_half x h = or_shifted 0xFFFF 16 x h

above_word : (x : ℕ) → x < 2 ^ 32 → bit_or 0 x ≡ 0 + x
above_word x h = or_shifted 0 32 x h

pub joined : (sas v : ℕ) → bit_or (ones_above sas) (cut_to sas v) ≡ ones_above sas + cut_to sas v
unfolding cut_to
joined sas v = go (eqb sas 0) (eqb sas 1)
  where
    go : (b h : Bool) → bit_or (cond b 0xFFFF_FF00 (cond h 0xFFFF_0000 0))
        (cond b (field_of v 7 0) (cond h (field_of v 15 0) (field_of v 31 0)))
        ≡ cond b 0xFFFF_FF00 (cond h 0xFFFF_0000 0) + cond b (field_of v 7 0) (cond h (field_of v 15 0) (field_of v 31 0))
    go true h = above_byte (field_of v 7 0) (omega arith)
    go false true = above_half (field_of v 15 0) (omega arith)
    go false false = above_word (field_of v 31 0) (omega arith)
