-- `status::with_it_lem` meets its contract: joined from the top down the fields add up.
use mathlib.Core.Path.{◌≡◌}
use Prim.Native.Nat.{ℕ, ◌*◌, ◌/◌, ◌%◌, ◌^◌}
use native.Mathlib.Omega.{arith}
use lib.Bits.{bit_and, and_high}
use Rattle.status.specs.It.{with_it}
use Rattle.status.proofs.Masks.{or_next}
use Rattle.status.proofs.with_it.Goals as goal

lower : (it : ℕ) → bit_and it 0x3 * 2 ^ 25 % 2 ^ 32 ≡ it / 2 ^ 0 % 2 ^ 2 * 2 ^ 25
lower it = let e : bit_and it 0x3 ≡ it / 2 ^ 0 % 2 ^ 2 * 2 ^ 0 = and_high it 2 0 in omega arith

upper : (it : ℕ) → bit_and it 0xFC * 2 ^ 8 % 2 ^ 32 ≡ it / 2 ^ 2 % 2 ^ 6 * 2 ^ 10
upper it = let e : bit_and it 0xFC ≡ it / 2 ^ 2 % 2 ^ 6 * 2 ^ 2 = and_high it 6 2 in omega arith

pub returns : goal.returns
unfolding with_it
returns c =
    let w = c.args.status in
    let it = c.args.it in
    or_next 10
    (or_next 16
    (or_next 25
    (or_next 27 (and_high w 5 27) (lower it) (omega arith) (omega arith))
    (and_high w 9 16) (omega arith) (omega arith))
    (upper it) (omega arith) (omega arith))
    (and_high w 10 0) (omega arith) (omega arith)
