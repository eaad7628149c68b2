-- `status::status_spsr` meets its contract: DIT moves by three bits, and joined from the top down the fields add up.
use mathlib.Core.Path.{◌≡◌}
use Prim.Native.Nat.{ℕ, ◌*◌, ◌/◌, ◌%◌, ◌^◌}
use native.Mathlib.Omega.{arith}
use lib.Bits.{bit_and, and_high}
use Rattle.status.specs.Spsr.{status_spsr}
use Rattle.status.proofs.Masks.{or_next}
use Rattle.status.proofs.status_spsr.Goals as goal

dit : (w : ℕ) → bit_and w 0x0020_0000 * 2 ^ 3 % 2 ^ 32 ≡ w / 2 ^ 21 % 2 * 2 ^ 24
dit w = let e : bit_and w 0x0020_0000 ≡ w / 2 ^ 21 % 2 * 2 ^ 21 = and_high w 1 21 in omega arith

pub returns : goal.returns
unfolding status_spsr
returns c =
    let w = c.args.status in
    or_next 21
    (or_next 24
    (or_next 25 (and_high w 7 25) (dit w) (omega arith) (omega arith))
    (and_high w 2 22) (omega arith) (omega arith))
    (and_high w 21 0) (omega arith) (omega arith)
