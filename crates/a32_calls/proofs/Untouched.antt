-- A refused call leaves all 48 words as they came, whatever they hold.
-- Assumes nothing.
use mathlib.Core.Path.{◌≡◌, ◌∙◌}
use mathlib.Core.List.{List}
use Prim.Native.Nat.{ℕ}
use lib.ListN.{length}
use Rattle.a32_finish.proofs.Answers.{refused_untouched}
use Rattle.state_words.specs.Words.{state_of}
use Rattle.state_words.proofs.RoundTrip.{untouched}
use Rattle.a32_calls.specs.Calls.{FinishedWords}

pub access_untouched : (w : List ℕ) (word : ℕ) (values : List ℕ) {n : ℕ} {w' t a g : List ℕ} → length w ≡ 48
    → FinishedWords w word values n w' t a g → (n ≡ 0 → ⊥) → w' ≡ w
access_untouched w word values l p never =
    untouched l (refused_untouched (state_of w) word values (λ e. never (p.lent.answer ∙ e))) p.lent
