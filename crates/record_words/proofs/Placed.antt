-- Words that are put into others from one place on: one more in its place.
-- Assumes nothing.
use Rattle.std.proofs.Common.{◌≡◌, ℕ, ◌+◌, ◌<◌, List, length, get_or, set, ap₂, ◌∙◌}
use Rattle.std.proofs.lemmas.List.Edits.{paste_more}
use lib.Seq.{paste}

pub one_more : (before : List ℕ) (from : ℕ) (put : List ℕ) (i : ℕ) {words : List ℕ} {place : ℕ} → words ≡ paste before from put i
    → place ≡ from + i → from + i < length before → i < length put → set words place (get_or put i 0) ≡ paste before from put (i + 1)
one_more before from put i held there within known =
    ap₂ (λ (l : List ℕ) (k : ℕ). set l k (get_or put i 0)) held there ∙ paste_more before from put i 0 within known
