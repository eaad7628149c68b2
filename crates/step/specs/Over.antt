-- A trapped instruction stepped over: WFI, WFE, SMC and a cache maintenance operation, whose work is the monitor's own, and an instruction
-- whose condition fails. PC of these traps is at the instruction.
use Rattle.std.specs.Prelude.{ℕ, ⊤, Result, Ok, Err, Bool, false, not, ◌&&◌, ◌||◌, List, [], ◌∷◌, ◌==◌}
use Rattle.bits.specs.Among.{among}
use Rattle.bits.specs.Decide.{Test, needs, decide, relabel}
use Rattle.record.specs.Class.{head_of}
use Rattle.record.specs.Sort.{sort_of}
use Rattle.record.specs.declared.origin.Origin.{Origin}
use Rattle.record.specs.declared.kinds.Record.{Record}
use Rattle.record.specs.declared.kinds.Sort.{Sort}
use Rattle.rule.specs.Has.{editions_of}
use Rattle.status.specs.Sound.{sound}
use Rattle.exception.specs.declared.state.Guest.{Guest}
use Rattle.step.specs.declared.over.Onward.{Onward}
use Rattle.step.specs.declared.refusal.OnwardRefusal.{OnwardRefusal}
use Rattle.step.specs.declared.refusal.OnwardRefusal.TheVariants.{NoEdition, UnsoundStatus, NotThis}
use Rattle.step.specs.Condition.{passes}
use Rattle.step.specs.Refusal.{onward_number}
use Rattle.step.specs.Step.{stepped}

-- the number of each answer
abbrev pub step_number : Result ⊤ OnwardRefusal → ℕ
step_number (Ok done) = 0
step_number (Err refusal) = onward_number refusal

abbrev pub number_stepped : Onward ⊤ → ℕ
number_stepped d = step_number d.answer

-- ---- the tests

-- 5: some edition has the record, from AArch32, which the guest's state is (02, C-23)
abbrev pub had : Record → Bool
had r = not (editions_of Origin.AArch32 r == 0)

-- a data abort with CM 1, but on a walk (S1PTW 1), of an address translation instruction too: that is repeated once the page is mapped
abbrev pub maintains_by : Sort → Bool
maintains_by Sort.Plain = false
maintains_by Sort.Addressed = false
maintains_by (Sort.InstructionAbort r) = false
maintains_by (Sort.DataAbort r) = r.cm && not r.s1ptw
maintains_by (Sort.SError r) = false

abbrev pub maintains : Record → Bool
maintains r = maintains_by (sort_of r)

-- 18: WFI or WFE, SMC, a cache maintenance operation, or a condition that fails
abbrev pub is_stepped_over : ℕ → Record → Bool
is_stepped_over w r = among (0x01 ∷ 0x13 ∷ []) (head_of r).class || maintains r || not (passes w r)

-- ---- the call

-- a refusal gives back the state as it came
abbrev pub refusing : OnwardRefusal → Guest → Onward ⊤
refusing refusal s = record { answer = Err refusal; state = s }

-- the tests in their order
abbrev pub step_tests : Guest → Record → List (Test (Onward ⊤))
step_tests s r =
    needs (had r) (refusing NoEdition s)
    ∷ needs (sound s.marks s.status) (refusing UnsoundStatus s)
    ∷ needs (is_stepped_over s.status r) (refusing NotThis s)
    ∷ []

-- each with its number; 0 comes where none fails
abbrev pub step_numbers : Guest → Record → List (Test ℕ)
step_numbers s r = relabel number_stepped (step_tests s r)

unfoldable pub stepped_over : Guest → Record → Onward ⊤
stepped_over s r = decide (step_tests s r) (record { answer = Ok tt; state = stepped s s.regs (head_of r).il })
