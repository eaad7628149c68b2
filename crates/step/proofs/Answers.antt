-- Laws of the answer to a step, and of the state beside it, for every record and state.
use Rattle.std.specs.Prelude.{⊤}
use Rattle.std.proofs.Common.{◌≡◌, ℕ, Ok, true, false, T, ◌↔◌, [], ◌∷◌, refl}
use Rattle.bits.specs.Among.{among}
use Rattle.bits.specs.Decide.{decide, FirstFails}
use Rattle.bits.proofs.Deciding.{answer_is}
use Rattle.promise.proofs.Promises.{by_tests, first_exactly}
use Rattle.record.specs.Class.{head_of}
use Rattle.record.specs.declared.kinds.Record.{Record}
use Rattle.status.specs.Sound.{sound}
use Rattle.exception.specs.declared.state.Guest.{Guest}
use Rattle.step.specs.declared.over.Onward.{Onward}
use Rattle.step.specs.declared.refusal.OnwardRefusal.TheVariants.{NoEdition}
use Rattle.step.specs.Step.{stepped}
use Rattle.step.specs.Over.{number_stepped, had, is_stepped_over, step_numbers, refusing, step_tests, stepped_over}
use Rattle.step.specs.Promise.{StepPromise}

abbrev pub took : Guest → Onward ⊤
took s = record { answer = Ok tt; state = s }

-- ---- the ways through the tests

module _ (s : Guest) (r : Record) where
  pub no_edition : had r ≡ false → refusing NoEdition s ≡ stepped_over s r
  unfolding stepped_over
  no_edition e = rw e

  pub settled : had r ≡ true → sound s.marks s.status ≡ true → is_stepped_over s.status r ≡ true
      → took (stepped s s.regs (head_of r).il) ≡ stepped_over s r
  unfolding stepped_over
  settled e d o = rw (e, d, o)

-- ---- the first test that fails gives the number

-- what the calls promise of the answer and the state, by their equation alone
pub promised : (s : Guest) (r : Record) {d : Onward ⊤} → d ≡ stepped_over s r → StepPromise s r d
unfolding stepped_over
promised s r = by_tests number_stepped (step_tests s r) (took (stepped s s.regs (head_of r).il)) refl refl

-- A REFUSAL gives back the very state
pub refused_untouched : (s : Guest) (r : Record) → (number_stepped (stepped_over s r) ≡ 0 → ⊥) → (stepped_over s r).state ≡ s
unfolding stepped_over
refused_untouched s r =
    answer_is (λ (d : Onward ⊤). (number_stepped d ≡ 0 → ⊥) → d.state ≡ s) (step_tests s r) (took (stepped s s.regs (head_of r).il))
    (λ n. refl, (λ n. refl, (λ n. refl, tt))) (λ n. absurd (n refl))

-- stepping over an instruction answers 0, 5, 9 or 18
pub number_listed : (s : Guest) (r : Record) → T (among (0 ∷ 5 ∷ 9 ∷ 18 ∷ []) (decide (step_numbers s r) 0))
number_listed s r =
    answer_is (λ n. T (among (0 ∷ 5 ∷ 9 ∷ 18 ∷ []) n)) (step_numbers s r) 0 (tt, (tt, (tt, tt))) tt

-- EACH REFUSAL EXACTLY: a number comes exactly when its test is the first that fails, and 0 exactly when none fails
pub decided : (s : Guest) (r : Record) (k : ℕ) → (number_stepped (stepped_over s r) ≡ k) ↔ FirstFails k (step_numbers s r)
decided s r = first_exactly (step_numbers s r) tt (promised s r refl)
