-- `status::spsr_status` meets its contract: DIT moves by three bits, and joined from the top down the fields add up.
use mathlib.Core.Path.{◌≡◌}
use Prim.Native.Nat.{ℕ, ◌*◌, ◌/◌, ◌%◌, ◌^◌}
use native.Mathlib.Omega.{arith}
use lib.Bits.{bit_and, and_high}
use Rattle.status.specs.Spsr.{spsr_status}
use Rattle.status.proofs.Masks.{or_next}
use Rattle.status.proofs.spsr_status.Goals as goal

dit : (w : ℕ) → bit_and w 0x0100_0000 / 2 ^ 3 ≡ w / 2 ^ 24 % 2 * 2 ^ 21
dit w = let e : bit_and w 0x0100_0000 ≡ w / 2 ^ 24 % 2 * 2 ^ 24 = and_high w 1 24 in omega arith

pub returns : goal.returns
unfolding spsr_status
returns c =
    let w = c.args.spsr in
    or_next 21
    (or_next 22
    (or_next 25 (and_high w 7 25) (and_high w 2 22) (omega arith) (omega arith))
    (dit w) (omega arith) (omega arith))
    (and_high w 21 0) (omega arith) (omega arith)
