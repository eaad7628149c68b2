-- A refusal, and an access that is still to be made, leave the guest as it was found.
-- Assumes nothing.
use Rattle.std.specs.Prelude.{⊤, Result, Ok, Err}
use mathlib.Core.Path.{◌≡◌, refl, sym, ap, ◌∙◌}
use Prim.Native.Nat.{ℕ}
use native.Mathlib.Omega.{arith}
use Rattle.bits.proofs.Arms.{absurd_answer}
use Rattle.record.specs.declared.origin.Origin.{Origin}
use Rattle.registers.specs.declared.Esr.{Esr}
use Rattle.record.specs.declared.kinds.Record.{Record}
use Rattle.registers.specs.declared.Far.{Far}
use Rattle.registers.specs.declared.Hpfar.{Hpfar}
use Rattle.exception.specs.declared.state.Guest.{Guest}
use Rattle.guest.specs.Inject.{injection_answer, injected}
use Rattle.guest.specs.declared.injection.Injection.{Injection}
use Rattle.guest.proofs.Answers as Guest
use Rattle.step.specs.Over.{step_number, stepped_over}
use Rattle.step.specs.Refusal.{onward_number}
use Rattle.step.specs.declared.refusal.OnwardRefusal.{OnwardRefusal}
use Rattle.step.specs.declared.refusal.OnwardRefusal.TheVariants.{NoEdition, UnsoundStatus, NotThis}
use Rattle.step.proofs.Answers as Step
use Rattle.device.specs.Answer.{access_number}
use Rattle.device.specs.Finish.{finished}
use Rattle.device.specs.declared.answer.Moved.{Moved}
use Rattle.device.specs.declared.answer.Moved.TheVariants.{Loaded, Stored}
use Rattle.device.proofs.Answers as Device
use Rattle.a32_access.specs.declared.access.Access.{Access}
use Rattle.a32.specs.Promise.{described_answer}
use Rattle.a32.specs.declared.instruction.InstructionRefusal.{InstructionRefusal}
use Rattle.trap.specs.Answer.{answer_of}
use Rattle.trap.specs.Trap.{record_in}
use Rattle.trap.specs.declared.Trap.{Trap}
use Rattle.trap_refusal.specs.declared.TrapRefusal.{TrapRefusal}
use Rattle.example.specs.declared.refusals.Refusal.{Refusal}
use Rattle.example.specs.declared.way.Way.{Way}
use Rattle.example.specs.Seen.{seen_of}
use Rattle.example.specs.Way.{way_of}
use Rattle.example.specs.Gone.{resumed_by, by_access, injecting, stepping, by_description, gone}
use Rattle.example.specs.Answered.{by_reading, answered}
use Rattle.example.specs.AsFound.{as_found_by, AsFound}

-- no refusal has the number 0
numbered : (refusal : OnwardRefusal) → onward_number refusal ≡ 0 → ⊥
numbered NoEdition e = omega arith
numbered UnsoundStatus e = omega arith
numbered NotThis e = omega arith

module _ (s : Guest) where
  -- a call whose refusals leave the state
  by_call : {E : Type 0} (refused : E → Refusal) (a : Result ⊤ E) (after : Guest) → ((e : E) → a ≡ Err e → after ≡ s)
      → as_found_by (resumed_by refused a) s after
  by_call refused (Ok done) after kept = tt
  by_call refused (Err e) after kept = kept e refl

  by_access_lem : (a : Result Moved OnwardRefusal) (after : Guest) → ((access_number a ≡ 0 → ⊥) → after ≡ s)
      → as_found_by (by_access a) s after
  by_access_lem (Ok Loaded) after kept = tt
  by_access_lem (Ok (Stored value)) after kept = tt
  by_access_lem (Err refusal) after kept = kept (numbered refusal)

  injection : (i : Injection) → AsFound s (injecting s i)
  unfolding injected
  injection i =
      by_call Refusal.Injection (injection_answer s i) (injected s i).state
      (λ e q. Guest.refused_untouched s i (λ taken. absurd_answer (let no = sym q ∙ taken in cc)))

  description : (abort : Injection) (a : Result Access InstructionRefusal) → AsFound s (by_description s abort a)
  description abort (Ok access) = refl
  description abort (Err refusal) = injection abort

  step : (r : Record) → AsFound s (stepping s r)
  step r =
      by_call Refusal.Onward (stepped_over s r).answer (stepped_over s r).state
      (λ e q. Step.refused_untouched s r (λ n. numbered e (sym (ap step_number q) ∙ n)))

  by_way : (r : Record) (word value : ℕ) (w : Way) → AsFound s (gone s r word value w)
  by_way r word value (Way.Inject i) = injection i
  by_way r word value Way.Finish =
      by_access_lem (finished s r value).answer (finished s r value).state (Device.refused_untouched s r value)
  by_way r word value (Way.Describe abort) = description abort (described_answer s word)
  by_way r word value Way.StepOver = step r
  by_way r word value Way.Leave = tt

  -- AS FOUND, whatever the trap
  pub as_found : (e : ℕ) (esr : Esr) (far : Far) (hpfar : Hpfar) (word value : ℕ) → AsFound s (answered s e esr far hpfar word value)
  as_found e esr far hpfar word value = by (answer_of Origin.AArch32 e esr far hpfar)
    where
      by : (a : Result Trap TrapRefusal) → AsFound s (by_reading s word value a)
      by (Err refusal) = refl
      by (Ok t) = by_way (record_in t) word value (way_of s.status (seen_of t))
