-- REFUSAL 5 BY NAME: a word that is refused 5 breaks a rule that has a number, and every number has a text.
-- Assumes nothing.
use mathlib.Core.Path.{◌≡◌, sym, ap, ◌∙◌}
use mathlib.Core.Bool.{true, true≢false}
use Prim.Native.Nat.{ℕ}
use borrow.Author.Tests.{eqb-true, ltb-true, not-false}
use Rattle.bits.proofs.Among.{among_all}
use Rattle.edition.specs.Mask.{mask_below}
use Rattle.edition.specs.declared.Refusal.TheVariants.{NoEdition}
use Rattle.edition.proofs.Masks.{mask_zero}
use Rattle.form.specs.Form as Form
use Rattle.refusal_text.proofs.Why.{told}
use Rattle.short.specs.Answer.{read_said}
use Rattle.short.specs.Reading.{has_word, read_of}
use Rattle.short.proofs.Refusals.{read_refused_exactly}
use Rattle.short_reason.specs.Reason.{why_of}
use Rattle.short_reason.proofs.Exact.{rule_numbers, why_number, none_broken}
use Rattle.registers.specs.declared.Hsr.{Hsr}
use Rattle.std.specs.Prelude.{Err}

pub rule_named : (e : ℕ) (hsr : Hsr) → read_of e hsr ≡ Err NoEdition → why_of hsr.0 ≡ 0 → ⊥
unfolding Form.has_word
rule_named e hsr is why =
    let w = hsr.0 in
    let five = (read_refused_exactly e hsr 5).0 (ap read_said.number is) in
    let had = none_broken w five.1.0 five.1.1.0 why in
    let none : mask_below 2 (λ x. has_word x w) ≡ 0 = eqb-true (mask_below 2 (λ x. has_word x w)) 0 (not-false _ five.1.1.1) in
    true≢false (sym had.2 ∙ mask_zero 2 (λ x. has_word x w) none had.0 (ltb-true had.0 2 had.1))

-- of which something is said
pub rule_told : (e : ℕ) (hsr : Hsr) → read_of e hsr ≡ Err NoEdition → told (why_of hsr.0) ≡ true
rule_told e hsr is = among_all rule_numbers told tt (why_of hsr.0) (why_number hsr.0 (rule_named e hsr is))
