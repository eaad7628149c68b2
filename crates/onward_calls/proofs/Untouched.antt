-- A refused call leaves all 48 words as they came, whatever they hold.
-- Assumes nothing.
use mathlib.Core.Path.{◌≡◌, ◌∙◌}
use mathlib.Core.List.{List}
use Prim.Native.Nat.{ℕ}
use lib.ListN.{length}
use Rattle.record.specs.declared.kinds.Record.{Record}
use Rattle.step.proofs.Answers as step
use Rattle.device.proofs.Answers as device
use Rattle.coprocessor.proofs.Answers as coprocessor
use Rattle.state_words.specs.Words.{state_of}
use Rattle.state_words.proofs.RoundTrip.{untouched}
use Rattle.onward_calls.specs.Calls.{Stepping, Finishing, Transferring}

module _ (w : List ℕ) (r : Record) {n : ℕ} {w' : List ℕ} (l : length w ≡ 48) where
  pub step_untouched : Stepping w r n w' → (n ≡ 0 → ⊥) → w' ≡ w
  step_untouched p never = untouched l (step.refused_untouched (state_of w) r (λ e. never (p.answer ∙ e))) p

  pub finish_untouched : (value : ℕ) {out : ℕ} → Finishing w r value n w' out → (n ≡ 0 → ⊥) → w' ≡ w
  finish_untouched value p never =
      untouched l (device.refused_untouched (state_of w) r value (λ e. never (p.lent.answer ∙ e))) p.lent

  pub transfer_untouched : (first second : ℕ) {out : List ℕ} → Transferring w r first second n w' out → (n ≡ 0 → ⊥) → w' ≡ w
  transfer_untouched first second p never =
      untouched l (coprocessor.refused_untouched (state_of w) r first second (λ e. never (p.lent.answer ∙ e))) p.lent
