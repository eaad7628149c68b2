-- `fault_code::isv_rule` meets its contract: the tests that led to each answer are those of `isv_rule`.
-- Assumes nothing.
use mathlib.Core.Path.{◌≡◌, ◌∙◌, sym, ap, ap₂}
use mathlib.Core.Bool.{Bool, true, cond, not, ◌||◌}
use Prim.Native.Nat.{ℕ}
use Rattle.edition.specs.Feature.{ras}
use Rattle.edition.specs.Mask.{mask_of}
use Rattle.iss.specs.Rule.{mmu_fault}
use Rattle.bits.specs.Test.{between}
use Rattle.fault_code.specs.Code.{isv_rule}
use Rattle.fault_code.proofs.Masks.{isv_mask}
use Rattle.fault_code.proofs.isv_rule.Goals as goal

-- the mask by the two tests of the code
masked : (isv : Bool) (code : ℕ) {translated free external : Bool} → translated ≡ mmu_fault code → (not isv || translated) ≡ free
    → between 0x13 0x17 code ≡ external
    → cond free (mask_of (λ e. true)) (cond external (mask_of (λ e. not (ras e))) 0) ≡ mask_of (λ e. isv_rule e isv code)
masked isv code t f x =
    sym (isv_mask isv code
    ∙ ap₂ (λ (a b : Bool). cond a (mask_of (λ e. true)) (cond b (mask_of (λ e. not (ras e))) 0))
    (ap (λ (b : Bool). not isv || b) (sym t) ∙ f) x)

pub returns-else-code : goal.returns-else-code
returns-else-code c =
    let a = c.before.before.before.args in
    masked a.isv a.code c.before.before.mmu_fault.ensures c.before.if-isv-mmu_fault.false c.if-code.false
