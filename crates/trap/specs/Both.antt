-- Demand 3 for addresses: where both editions show a trap, the second trap is the first one again.
use Rattle.std.specs.Prelude.{ℕ, Result, Ok, Err}
use Rattle.bits.specs.Decide.{decide}
use Rattle.edition.specs.Feature.{editions}
use Rattle.edition.specs.Mask.{mask_of, count_below}
use Rattle.promise.specs.Promise.{Promise}
use Rattle.record.specs.declared.origin.Origin.{Origin}
use Rattle.registers.specs.declared.Esr.{Esr}
use Rattle.registers.specs.declared.Far.{Far}
use Rattle.registers.specs.declared.Hpfar.{Hpfar}
use Rattle.syndrome.specs.Reading.{has_word}
use Rattle.trap.specs.Numbers.{both_numbers}
use Rattle.trap.specs.Answer.{answer_of, trap_list}
use Rattle.trap.specs.declared.Trap.{Trap}
use Rattle.trap_refusal.specs.declared.TrapRefusal.{TrapRefusal}

abbrev pub both_from : Result Trap TrapRefusal → Result Trap TrapRefusal → Result (Trap × Trap) TrapRefusal
both_from (Ok trap) (Ok other) = Ok (trap, trap)
both_from (Ok trap) (Err refusal) = Err refusal
both_from (Err refusal) other = Err refusal

module _ (o : Origin) where
  unfoldable pub both_of : ℕ → ℕ → Esr → Far → Hpfar → Result (Trap × Trap) TrapRefusal
  both_of first second esr far hpfar = both_from (answer_of o first esr far hpfar) (answer_of o second esr far hpfar)

  -- the number: the first edition's tests, then the second's
  abbrev pub BothReading : ℕ → ℕ → Esr → Far → Hpfar → Result (Trap × Trap) TrapRefusal → Type 0
  BothReading first second esr far hpfar =
      Promise both_numbers (both_of first second esr far hpfar)
      (decide (trap_list o first esr far hpfar) (decide (trap_list o second esr far hpfar) 0))
      (mask_of (λ x. has_word o x esr.0)) (count_below editions (λ x. has_word o x esr.0))
