-- `fault_code::error_code` meets its contract: the tests that led to each answer are those of `error_code`.
-- Assumes nothing.
use mathlib.Core.Path.{◌≡◌, ◌∙◌, sym, ap₂}
use mathlib.Core.Bool.{Bool, true, cond}
use borrow.Author.Tests.{ne_eqb}
use lib.Dec.{eqb}
use Prim.Native.Nat.{ℕ}
use Rattle.edition.specs.Feature.{ras}
use Rattle.edition.specs.Mask.{mask_of}
use Rattle.edition.proofs.Masks.{either_mask}
use Rattle.fault_code.specs.Code.{error_code}
use Rattle.fault_code.proofs.error_code.Goals as goal

-- the mask by the two tests of the code
masked : (code : ℕ) {zero error : Bool} → eqb code 0 ≡ zero → eqb code 0x11 ≡ error
    → cond zero (mask_of (λ e. true)) (cond error (mask_of ras) 0) ≡ mask_of (λ e. error_code e code)
masked code z x =
    sym (either_mask (eqb code 0) (eqb code 0x11) ras ∙ ap₂ (λ (a b : Bool). cond a (mask_of (λ e. true)) (cond b (mask_of ras) 0)) z x)

pub returns-else-code-eq17 : goal.returns-else-code-eq17
returns-else-code-eq17 c = masked c.before.before.args.code (ne_eqb _ _ c.before.if-code-eq0.false) (ne_eqb _ _ c.if-code-eq17.false)
