-- `rule::had::edition_rule` meets its contract: each arm's masks are those of its sort's rules.
-- Assumes nothing.
use mathlib.Core.Path.{◌≡◌, ◌∙◌, sym, ap, ap₂}
use mathlib.Core.Bool.{◌&&◌}
use Prim.Native.Nat.{ℕ}
use lib.Bits.{bit_and}
use Rattle.edition.specs.Mask.{mask_of}
use Rattle.edition.proofs.Masks.{both_masks}
use Rattle.record.specs.Sort.{sort_of}
use Rattle.record.specs.declared.kinds.Record.{Record}
use Rattle.record.specs.declared.kinds.Sort.{Sort}
use Rattle.fault_code.specs.Code.{instruction_code, data_code, set_rule, isv_rule}
use Rattle.rule.specs.Has.{sort_rule, edition_rule}
use Rattle.rule.proofs.had.edition_rule.Goals as goal

abbrev by_edition : Sort → ℕ
by_edition s = mask_of (λ e. sort_rule e s)

-- the mask of an arm's sort is the record's
of-sort : (r : Record) {came part : Sort} {m : ℕ} → came ≡ sort_of r → came ≡ part → m ≡ by_edition part → m ≡ mask_of (λ e. edition_rule e r)
of-sort r sorted same mask = mask ∙ ap by_edition (sym same ∙ sorted)

pub returns-in-InstructionAbort : goal.returns-in-InstructionAbort
returns-in-InstructionAbort c =
    let at = c in
    of-sort at.args.r at.sort.ensures c.in-InstructionAbort.is
    (ap₂ bit_and c.instruction_code.ensures c.set_rule.ensures
    ∙ both_masks (λ e. instruction_code e c.in-InstructionAbort.x.code) (λ e. set_rule e c.in-InstructionAbort.x.set c.in-InstructionAbort.x.code))

pub returns-in-DataAbort : goal.returns-in-DataAbort
returns-in-DataAbort c =
    let at = c in
    of-sort at.args.r at.sort.ensures c.in-DataAbort.is
    (ap₂ bit_and
    (ap₂ bit_and c.data_code.ensures c.set_rule-in-DataAbort.ensures
    ∙ both_masks (λ e. data_code e c.in-DataAbort.x.code) (λ e. set_rule e c.in-DataAbort.x.set c.in-DataAbort.x.code))
    c.isv_rule.ensures
    ∙ both_masks (λ e. data_code e c.in-DataAbort.x.code && set_rule e c.in-DataAbort.x.set c.in-DataAbort.x.code)
    (λ e. isv_rule e c.in-DataAbort.x.isv c.in-DataAbort.x.code))
