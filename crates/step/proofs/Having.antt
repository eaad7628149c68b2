-- Test 5 in plain words: a record is had where some edition has it.
use Rattle.std.proofs.Common.{◌≡◌, ℕ, ◌<◌, true, not, sym, ap, ◌∙◌, ⊎_elim, true≢false, eq-eqb}
use Rattle.edition.specs.Feature.{editions}
use Rattle.edition.specs.Mask.{mask_below, mask_of}
use Rattle.edition.proofs.Masks.{some_or_none}
use Rattle.record.specs.declared.origin.Origin.{Origin}
use Rattle.record.specs.declared.kinds.Record.{Record}
use Rattle.rule.specs.Has.{has}
use Rattle.step.specs.Over.{had}

pub had_some : (r : Record) → had r ≡ true → (e : ℕ) × (e < editions) × (has Origin.AArch32 e r ≡ true)
unfolding mask_of
had_some r h =
    ⊎_elim (λ z. absurd (true≢false (sym h ∙ ap not (eq-eqb (mask_below editions (λ e. has Origin.AArch32 e r)) 0 z)))) (λ found. found)
    (some_or_none editions (λ e. has Origin.AArch32 e r))
