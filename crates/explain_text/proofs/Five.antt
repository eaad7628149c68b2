-- REFUSAL 5 BY NAME: a word that is refused 5 breaks a rule that has a number, and every number has a text.
-- Assumes nothing.
use mathlib.Core.Path.{◌≡◌, sym, ap, ◌∙◌}
use mathlib.Core.Bool.{true, true≢false}
use Prim.Native.Nat.{ℕ}
use borrow.Author.Tests.{eqb-true, ltb-true, not-false}
use Rattle.bits.proofs.Among.{among_all}
use Rattle.edition.specs.Mask.{mask_below}
use Rattle.edition.specs.declared.Refusal.TheVariants.{NoEdition}
use Rattle.edition.proofs.Masks.{mask_zero}
use Rattle.form.specs.Form as Form
use Rattle.reason.specs.Reason.{why_of}
use Rattle.reason.proofs.Exact.{rule_numbers, why_number, none_broken}
use Rattle.record.specs.declared.origin.Origin.{Origin}
use Rattle.registers.specs.declared.Esr.{Esr}
use Rattle.refusal_text.proofs.Why.{told}
use Rattle.syndrome.specs.Answer.{read_said}
use Rattle.syndrome.specs.Reading.{has_word, read_of}
use Rattle.syndrome.proofs.Refusals.{read_refused_exactly}
use Rattle.std.specs.Prelude.{Err}

pub rule_named : (e : ℕ) (esr : Esr) → read_of Origin.AArch32 e esr ≡ Err NoEdition → why_of esr.0 ≡ 0 → ⊥
unfolding Form.has_word
rule_named e esr is why =
    let w = esr.0 in
    let five = (read_refused_exactly Origin.AArch32 e esr 5).0 (ap read_said.number is) in
    let had = none_broken w five.1.1.0 five.1.1.1.0 why in
    let none : mask_below 16 (λ x. has_word Origin.AArch32 x w) ≡ 0 =
    eqb-true (mask_below 16 (λ x. has_word Origin.AArch32 x w)) 0 (not-false _ five.1.1.1.1) in
    true≢false (sym had.2 ∙ mask_zero 16 (λ x. has_word Origin.AArch32 x w) none had.0 (ltb-true had.0 16 had.1))

-- of which something is said
pub rule_told : (e : ℕ) (esr : Esr) → read_of Origin.AArch32 e esr ≡ Err NoEdition → told (why_of esr.0) ≡ true
rule_told e esr is = among_all rule_numbers told tt (why_of esr.0) (why_number esr.0 (rule_named e esr is))
