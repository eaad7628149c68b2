-- Reading a whole trap (01, 'Numbers a call may answer'): 1 to 6 as the syndrome reader gives them, then 7, then 8, or the trap. 8 is
-- given from AArch32 alone (02, C-23).
use Rattle.std.specs.Prelude.{ℕ, Bool, true, List, [], ◌∷◌, ◌++◌, Option, Result, Ok, Err}
use Rattle.bits.specs.Decide.{Test, needs, decide}
use Rattle.edition.specs.Feature.{editions}
use Rattle.edition.specs.Mask.{mask_of, count_below}
use Rattle.promise.specs.Promise.{Promise}
use Rattle.bits.specs.Test.{implies}
use Rattle.record.specs.Addresses.{addresses_of}
use Rattle.record.specs.declared.origin.Origin.{Origin}
use Rattle.record.specs.declared.kinds.Addresses.{Addresses}
use Rattle.registers.specs.declared.Esr.{Esr}
use Rattle.record.specs.declared.kinds.Record.{Record}
use Rattle.address.specs.Known.{far_counts, hpfar_counts}
use Rattle.address.specs.Page.{hpfar_rule, far_rule}
use Rattle.registers.specs.declared.Far.{Far}
use Rattle.registers.specs.declared.Hpfar.{Hpfar}
use Rattle.syndrome.specs.Reading.{has_word, read_of, read_list}
use Rattle.trap.specs.Numbers.{answer_said}
use Rattle.trap.specs.Trap.{trap_of}
use Rattle.trap_refusal.specs.declared.TrapRefusal.{TrapRefusal}
use Rattle.trap.specs.declared.Trap.{Trap}
use Rattle.edition.specs.declared.Refusal.{Refusal}

-- 7: no bit outside HPFAR's field is set, where HPFAR counts
abbrev pub hpfar_right : ℕ → Option Addresses → Hpfar → Bool
hpfar_right e a hpfar = implies (hpfar_counts a) (hpfar_rule e hpfar)

-- a test of the record that is taken: where the syndrome is refused, nothing is left to fail
abbrev pub of_taken : (Record → Bool) → Result Record Refusal → Bool
of_taken test (Ok r) = test r
of_taken test (Err refusal) = true

module _ (o : Origin) where
  -- 8: bits 63:32 of FAR are zero, where FAR counts and the trap came from AArch32
  abbrev pub far_right : Option Addresses → Far → Bool
  far_right a far = implies (far_counts a) (far_rule o far)

  -- the syndrome is taken: 7, then 8, then the trap
  unfoldable pub answer_record : ℕ → Record → Far → Hpfar → Result Trap TrapRefusal
  answer_record e r far hpfar =
      decide
      (needs (hpfar_right e (addresses_of r) hpfar) (Err TrapRefusal.Hpfar)
      ∷ needs (far_right (addresses_of r) far) (Err TrapRefusal.Far)
      ∷ [])
      (Ok (trap_of r far hpfar))

  abbrev pub answer_read : ℕ → Result Record Refusal → Far → Hpfar → Result Trap TrapRefusal
  answer_read e (Ok r) far hpfar = answer_record e r far hpfar
  answer_read e (Err refusal) far hpfar = Err (TrapRefusal.Syndrome refusal)

  unfoldable pub answer_of : ℕ → Esr → Far → Hpfar → Result Trap TrapRefusal
  answer_of e esr far hpfar = answer_read e (read_of o e esr) far hpfar

  -- the tests, each with its number: the syndrome's, then those of the registers that count in the record that is taken
  abbrev pub trap_list : ℕ → Esr → Far → Hpfar → List (Test ℕ)
  trap_list e esr far hpfar =
      read_list o e esr
      ++ (needs (of_taken (λ r. hpfar_right e (addresses_of r) hpfar) (read_of o e esr)) 7
      ∷ needs (of_taken (λ r. far_right (addresses_of r) far) (read_of o e esr)) 8
      ∷ [])

  -- THE PROMISE of reading a trap: the answer; its number, that of the first test that fails; and with 6 alone the mask of the editions
  -- that have the word, and how many they are
  abbrev pub TrapReading : ℕ → Esr → Far → Hpfar → Result Trap TrapRefusal → Type 0
  TrapReading e esr far hpfar =
      Promise answer_said (answer_of e esr far hpfar) (decide (trap_list e esr far hpfar) 0) (mask_of (λ x. has_word o x esr.0))
      (count_below editions (λ x. has_word o x esr.0))
