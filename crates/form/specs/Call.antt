-- A call that goes by the edition, over n editions (01, 'Numbers a call may answer'): 1; then the tests that are the call's own; then 5
-- where no edition has it; then 6, with the editions that have it and their number, where this edition doesn't.
use Rattle.std.specs.Prelude.{ℕ, Bool, not, List, [], ◌∷◌, ◌++◌, eqb, ltb, Result, Ok, Err}
use Rattle.std.specs.Int.Count.{ones}
use Rattle.bits.specs.Decide.{Test, needs, decide, relabel}
use Rattle.edition.specs.Mask.{mask_below}
use Rattle.edition.specs.declared.Refusal.{Refusal}
use Rattle.edition.specs.declared.Refusal.TheVariants.{UnknownEdition, NoEdition, OtherEditions}

-- some edition has it
abbrev pub some_has : ℕ → (ℕ → Bool) → Bool
some_has n test = not (eqb (mask_below n test) 0)

-- refusal 6: the mask of the editions that have it, and its number of ones
abbrev pub others : ℕ → (ℕ → Bool) → Refusal
others n test = OtherEditions (mask_below n test) (ones (mask_below n test))

abbrev pub judgement : ℕ → (ℕ → Bool) → ℕ → List (Test Refusal)
judgement n test e = needs (some_has n test) NoEdition ∷ needs (test e) (others n test) ∷ []

abbrev pub call_tests : ℕ → (ℕ → Bool) → List (Test Refusal) → ℕ → List (Test Refusal)
call_tests n test own e = needs (ltb e n) UnknownEdition ∷ (own ++ judgement n test e)

unfoldable pub call_of : {A : Type 0} → ℕ → (ℕ → Bool) → List (Test Refusal) → ℕ → A → Result A Refusal
call_of n test own e a = decide (relabel Err (call_tests n test own e)) (Ok a)
