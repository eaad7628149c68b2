-- `fault_code::set_rule` meets its contract: the tests that led to each answer are those of `set_rule`.
-- Assumes nothing.
use mathlib.Core.Path.{◌≡◌, ◌∙◌, sym, ap₂}
use mathlib.Core.Bool.{Bool, true, cond, ◌&&◌, ◌||◌}
use borrow.Author.Tests.{ne_eqb}
use lib.Dec.{eqb}
use Prim.Native.Nat.{ℕ}
use Rattle.edition.specs.Feature.{ras}
use Rattle.edition.specs.Mask.{mask_of}
use Rattle.edition.proofs.Masks.{either_mask}
use Rattle.fault_code.specs.Code.{set_rule}
use Rattle.fault_code.proofs.set_rule.Goals as goal

-- the mask by the two tests of the code
masked : (set code : ℕ) {zero external : Bool} → eqb set 0 ≡ zero → (eqb code 0x10 && (eqb set 2 || eqb set 3)) ≡ external
    → cond zero (mask_of (λ e. true)) (cond external (mask_of ras) 0) ≡ mask_of (λ e. set_rule e set code)
masked set code z x =
    sym (either_mask (eqb set 0) (eqb code 0x10 && (eqb set 2 || eqb set 3)) ras
    ∙ ap₂ (λ (a b : Bool). cond a (mask_of (λ e. true)) (cond b (mask_of ras) 0)) z x)

pub returns-else-code-set : goal.returns-else-code-set
returns-else-code-set c = masked c.before.before.args.set c.before.before.args.code (ne_eqb _ _ c.before.if-set-eq0.false) c.if-code-set.false
