-- `a32_finish::branch::with_t` meets its contract: joined from the top down the fields add up.
use mathlib.Core.Path.{◌≡◌, refl, sym, ap, ◌∙◌}
use mathlib.Core.Bool.{Bool}
use Prim.Native.Nat.{ℕ, ◌+◌, ◌*◌, ◌/◌, ◌%◌, ◌^◌}
use native.Mathlib.Omega.{arith}
use lib.Bits.{bit_and, bit_or, and_high}
use Rattle.bits.specs.Field.{digit}
use Rattle.status.proofs.Masks.{or_next}
use Rattle.a32_finish.specs.Branch.{with_t}
use Rattle.a32_finish.proofs.branch.with_t.Goals as goal

module _ (w : ℕ) where
  by : {t b : Bool} → t ≡ b → w / 2 ^ 6 % 2 ^ 26 * 2 ^ 6 + digit b * 2 ^ 5 + w / 2 ^ 0 % 2 ^ 5 * 2 ^ 0 ≡ with_t w t
  unfolding with_t
  by e = ap (λ (b : Bool). w / 2 ^ 6 % 2 ^ 26 * 2 ^ 6 + digit b * 2 ^ 5 + w / 2 ^ 0 % 2 ^ 5 * 2 ^ 0) (sym e)

  set : bit_or (bit_or (bit_and w 0xFFFF_FFC0) 0x20) (bit_and w 0x1F) ≡ w / 2 ^ 6 % 2 ^ 26 * 2 ^ 6 + 1 * 2 ^ 5 + w / 2 ^ 0 % 2 ^ 5 * 2 ^ 0
  set = or_next 5 (or_next 6 (and_high w 26 6) refl (omega arith) (omega arith)) (and_high w 5 0) (omega arith) (omega arith)

  clear : bit_or (bit_and w 0xFFFF_FFC0) (bit_and w 0x1F) ≡ w / 2 ^ 6 % 2 ^ 26 * 2 ^ 6 + 0 * 2 ^ 5 + w / 2 ^ 0 % 2 ^ 5 * 2 ^ 0
  clear = or_next 6 (and_high w 26 6) (and_high w 5 0) (omega arith) (omega arith) ∙ omega arith

pub returns-then-t : goal.returns-then-t
returns-then-t c = set c.args.status ∙ by c.args.status c.if-t.true

pub returns-else-t : goal.returns-else-t
returns-else-t c = clear c.args.status ∙ by c.args.status c.if-t.false
