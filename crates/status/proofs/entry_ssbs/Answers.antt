-- `status::entry_ssbs` meets its contract: bit 23 is SCTLR's bit 31, moved, or what it was.
use mathlib.Core.Path.{◌≡◌, ◌∙◌}
use mathlib.Core.Bool.{Bool}
use Prim.Native.Nat.{ℕ, ◌*◌, ◌/◌, ◌%◌, ◌^◌}
use native.Mathlib.Omega.{arith}
use lib.Bits.{bit_and, and_high}
use Rattle.bits.proofs.Arms.{told}
use Rattle.status.specs.Entry.{entry_ssbs}
use Rattle.status.proofs.entry_ssbs.Goals as goal

moved : (sctlr : ℕ) → bit_and sctlr 0x8000_0000 / 2 ^ 8 ≡ sctlr / 2 ^ 31 % 2 * 2 ^ 23
moved sctlr = let e : bit_and sctlr 0x8000_0000 ≡ sctlr / 2 ^ 31 % 2 * 2 ^ 31 = and_high sctlr 1 31 in omega arith

at : {marked b : Bool} (old sctlr : ℕ) → marked ≡ b → entry_ssbs b old sctlr * 2 ^ 23 ≡ entry_ssbs marked old sctlr * 2 ^ 23
at old sctlr = told (λ (b : Bool). entry_ssbs b old sctlr * 2 ^ 23)

pub returns-then-marked : goal.returns-then-marked
returns-then-marked c = moved c.before.args.sctlr ∙ at c.before.args.old c.before.args.sctlr c.if-marked.true

pub returns-else-marked : goal.returns-else-marked
returns-else-marked c = and_high c.before.args.old 1 23 ∙ at c.before.args.old c.before.args.sctlr c.if-marked.false
