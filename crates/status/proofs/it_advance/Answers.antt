-- `status::it_advance` meets its contract: its branch is the test of the field 2:0, and the rest moves up by one.
use mathlib.Core.Path.{◌≡◌, sym, ap, ◌∙◌}
use mathlib.Core.Bool.{Bool, cond}
use Prim.Native.Nat.{ℕ, ◌+◌, ◌*◌, ◌/◌, ◌%◌, ◌^◌}
use native.Mathlib.Omega.{arith}
use lib.Bits.{bit_and, and_high}
use lib.Dec.{eqb}
use borrow.Author.Tests.{eq-eqb, ne_eqb}
use Rattle.status.specs.It.{it_advance}
use Rattle.status.proofs.Masks.{or_next, field_zero}
use Rattle.status.proofs.it_advance.Goals as goal

moved : (it : ℕ) → bit_and it 0xF * 2 % 2 ^ 32 ≡ it / 2 ^ 0 % 2 ^ 4 * 2 ^ 1
moved it = let e : bit_and it 0xF ≡ it / 2 ^ 0 % 2 ^ 4 * 2 ^ 0 = and_high it 4 0 in omega arith

at : (it : ℕ) {b : Bool} → eqb (bit_and it 0x7) 0 ≡ b → cond b 0 (it / 2 ^ 5 % 2 ^ 3 * 2 ^ 5 + it / 2 ^ 0 % 2 ^ 4 * 2 ^ 1) ≡ it_advance it
at it e =
    ap (λ (b : Bool). cond b 0 (it / 2 ^ 5 % 2 ^ 3 * 2 ^ 5 + it / 2 ^ 0 % 2 ^ 4 * 2 ^ 1)) (sym e ∙ field_zero it 3 0)

pub returns-then-it-eq0 : goal.returns-then-it-eq0
returns-then-it-eq0 c = at c.before.args.it (eq-eqb _ _ c.if-it-eq0.true)

pub returns-else-it-eq0 : goal.returns-else-it-eq0
returns-else-it-eq0 c =
    let it = c.before.args.it in
    or_next 5 (and_high it 3 5) (moved it) (omega arith) (omega arith)
    ∙ at it (ne_eqb _ _ c.if-it-eq0.false)
