-- `short_rule::code::edition_rule` meets its contract: each arm's masks are those of its kind's rules.
-- Assumes nothing.
use mathlib.Core.Path.{◌∙◌, ap₂}
use mathlib.Core.Bool.{◌&&◌}
use Prim.Native.Nat.{ℕ}
use lib.Bits.{bit_and}
use Rattle.short_rule.specs.Edition.{mask_of}
use Rattle.edition.specs.Feature.{ras}
use Rattle.iss.specs.Rule.{isv_code}
use Rattle.short_rule.specs.Code.{data_code, aet_rule, wnr_rule, edition_rule}
use Rattle.short_rule.proofs.Masks.{both_masks}
use Rattle.short_record.specs.declared.kinds.Record.{Record}
use Rattle.bits.proofs.Arms.{at_arm}
use Rattle.short_rule.proofs.code.edition_rule.Goals as goal

abbrev by_edition : Record → ℕ
by_edition r = mask_of (λ e. edition_rule e r)

pub returns-in-DataAbort : goal.returns-in-DataAbort
returns-in-DataAbort c =
    let code = c.in-DataAbort.x.code in
    at_arm by_edition
    (ap₂ bit_and
    (ap₂ bit_and
    (ap₂ bit_and c.data_code.ensures c.aet_rule.ensures
    ∙ both_masks (λ e. data_code e code) (λ e. aet_rule e c.in-DataAbort.x.aet code))
    c.wnr_rule.ensures
    ∙ both_masks (λ e. data_code e code && aet_rule e c.in-DataAbort.x.aet code) (λ e. wnr_rule e c.in-DataAbort.x.wnr code))
    c.isv_rule.ensures
    ∙ both_masks (λ e. data_code e code && aet_rule e c.in-DataAbort.x.aet code && wnr_rule e c.in-DataAbort.x.wnr code)
    (λ e. isv_code (ras e) c.in-DataAbort.x.isv code))
    c.in-DataAbort.is
