-- Rules in their order, each with its number: one that asks nothing of the edition, and holds in all or in none, and one that goes by the
-- edition. What they allow, and the first of them after which no edition is left.
use Rattle.std.specs.Prelude.{ℕ, Bool, true, cond, not, ◌&&◌, List, [], ◌∷◌, eqb, Some, None}
use Rattle.std.specs.Int.Bits.{bit_and}
use Rattle.narrow.specs.declared.Left.{Left}

pub data Rule : Type 0 where
  always : ℕ → Bool → Rule
  by : ℕ → (ℕ → Bool) → Rule

-- an edition passes every rule
abbrev pub allows : List Rule → ℕ → Bool
allows [] e = true
allows (always number holds ∷ rules) e = holds && allows rules e
allows (by number holds ∷ rules) e = holds e && allows rules e

-- all editions where a record's fields fit their places, else none
unfoldable pub started : ℕ → Bool → Left
started all fits = record { mask = cond fits all 0; why = None }

-- a mask is left of another: the rule's number comes where some edition was left and none is
abbrev pub leaving : ℕ → ℕ → Left → Left
leaving number mask left = record { mask = mask; why = cond (eqb mask 0 && not (eqb left.mask 0)) (Some number) left.why }

-- what is left after a rule of either sort
unfoldable pub kept : ℕ → Bool → Left → Left
kept number holds left = cond holds left (leaving number 0 left)

unfoldable pub narrowed : ℕ → ℕ → Left → Left
narrowed number mask left = leaving number (bit_and left.mask mask) left

-- WHAT IS LEFT after every rule, and the number of the first after which nothing is; a form says what the mask of a test is
abbrev pub judged : ((ℕ → Bool) → ℕ) → List Rule → Left → Left
judged mask_of [] left = left
judged mask_of (always number holds ∷ rules) left = judged mask_of rules (kept number holds left)
judged mask_of (by number holds ∷ rules) left = judged mask_of rules (narrowed number (mask_of holds) left)
