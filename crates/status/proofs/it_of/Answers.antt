-- `status::it_of` meets its contract: each part of IT moves to its place.
use mathlib.Core.Path.{◌≡◌}
use Prim.Native.Nat.{ℕ, ◌*◌, ◌/◌, ◌%◌, ◌^◌}
use native.Mathlib.Omega.{arith}
use lib.Bits.{bit_and, and_high}
use Rattle.status.proofs.Masks.{or_next}
use Rattle.status.proofs.it_of.Goals as goal

upper : (w : ℕ) → bit_and w 0xFC00 / 2 ^ 8 ≡ w / 2 ^ 10 % 2 ^ 6 * 2 ^ 2
upper w = let e : bit_and w 0xFC00 ≡ w / 2 ^ 10 % 2 ^ 6 * 2 ^ 10 = and_high w 6 10 in omega arith

lower : (w : ℕ) → bit_and w 0x0600_0000 / 2 ^ 25 ≡ w / 2 ^ 25 % 2 ^ 2
lower w = let e : bit_and w 0x0600_0000 ≡ w / 2 ^ 25 % 2 ^ 2 * 2 ^ 25 = and_high w 2 25 in omega arith

pub returns : goal.returns
returns c = or_next 2 (upper c.args.status) (lower c.args.status) (omega arith) (omega arith)
