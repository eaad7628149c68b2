-- What a step leaves alone, and what it makes: for every state and record.
use Rattle.std.specs.Prelude.{⊤}
use Rattle.std.proofs.Common.{◌≡◌, ℕ, ◌+◌, ◌%◌, ◌^◌, Bool, true, false, not, ◌||◌, List, [], ◌∷◌, refl, ap, ◌∙◌}
use Rattle.bits.specs.Among.{among}
use Rattle.bits.proofs.Deciding.{answer_is}
use Rattle.record.specs.Class.{head_of}
use Rattle.record.specs.declared.kinds.Record.{Record}
use Rattle.status.specs.Sound.{sound}
use Rattle.status.specs.It.{it_of, it_advance, it_advanced}
use Rattle.status.proofs.Advance.{Advanced, with_it_lem, sound_advanced}
use Rattle.exception.specs.declared.state.Guest.{Guest}
use Rattle.step.specs.declared.over.Onward.{Onward}
use Rattle.step.specs.Condition.{passes}
use Rattle.step.specs.Step.{bytes_of, stepped}
use Rattle.step.specs.Over.{had, maintains, is_stepped_over, step_tests, stepped_over}
use Rattle.step.proofs.Answers.{took, settled}

-- every field but the registers, PC and the status word
pub record Kept (s after : Guest) : Type 0 where
  pub saved : after.saved ≡ s.saved
  pub faults : after.faults ≡ s.faults
  pub sctlr : after.sctlr ≡ s.sctlr
  pub vbar : after.vbar ≡ s.vbar
  pub ttbcr : after.ttbcr ≡ s.ttbcr
  pub marks : after.marks ≡ s.marks

pub same : (s : Guest) → Kept s s
same s = record { saved = refl; faults = refl; sctlr = refl; vbar = refl; ttbcr = refl; marks = refl }

-- past an instruction of a length that IL tells: PC moved, the status word has IT advanced, and those are kept
pub record Stepped (s after : Guest) (il : Bool) : Type 0 where
  pub pc : after.pc ≡ (s.pc + bytes_of il) % 2 ^ 32
  pub status : after.status ≡ it_advanced s.status
  pub kept : Kept s after

-- THE STEP, with any registers
pub steps : (s : Guest) (regs : List ℕ) (il : Bool) → Stepped s (stepped s regs il) il
unfolding stepped
steps s regs il =
    record {
      pc = refl;
      status = refl;
      kept = record { saved = refl; faults = refl; sctlr = refl; vbar = refl; ttbcr = refl; marks = refl };
    }

pub registers_given : (s : Guest) (regs : List ℕ) (il : Bool) → (stepped s regs il).regs ≡ regs
unfolding stepped
registers_given s regs il = refl

-- the state past an instruction is sound where the old one was
pub sound_after : (s : Guest) (regs : List ℕ) (il : Bool) → sound s.marks (stepped s regs il).status ≡ sound s.marks s.status
sound_after s regs il = ap (sound s.marks) (steps s regs il).status ∙ sound_advanced s.marks s.status

-- THE FRAME: whatever is answered, nothing but PC and the status word is another
pub record Unmoved (s after : Guest) : Type 0 where
  pub regs : after.regs ≡ s.regs
  pub kept : Kept s after

pub frame_kept : (s : Guest) (r : Record) → Unmoved s (stepped_over s r).state
unfolding stepped_over
frame_kept s r =
    answer_is (λ (d : Onward ⊤). Unmoved s d.state) (step_tests s r) (took (stepped s s.regs (head_of r).il))
    (still, (still, (still, tt)))
    record { regs = registers_given s s.regs (head_of r).il; kept = (steps s s.regs (head_of r).il).kept }
  where
    still : Unmoved s s
    still = record { regs = refl; kept = same s }

-- PC and IT alone: the status word is the old one but for IT
pub record PcAndIt (s after : Guest) (il : Bool) : Type 0 where
  pub pc : after.pc ≡ (s.pc + bytes_of il) % 2 ^ 32
  pub it : Advanced s.status (it_advance (it_of s.status)) after.status
  pub unmoved : Unmoved s after

over : (s : Guest) (r : Record) → PcAndIt s (stepped s s.regs (head_of r).il) (head_of r).il
unfolding stepped
over s r =
    record {
      pc = refl;
      it = with_it_lem s.status (it_advance (it_of s.status));
      unmoved =
          record { regs = refl; kept = record { saved = refl; faults = refl; sctlr = refl; vbar = refl; ttbcr = refl; marks = refl } };
    }

-- A FAILED CONDITION: the instruction is stepped over, whatever its class, and PC and IT alone change
module _ (s : Guest) (r : Record) where
  pub failed_stepped : passes s.status r ≡ false → is_stepped_over s.status r ≡ true
  failed_stepped e =
      ap (λ (b : Bool). among (0x01 ∷ 0x13 ∷ []) (head_of r).class || maintains r || not b) e
      ∙ or_true (among (0x01 ∷ 0x13 ∷ []) (head_of r).class || maintains r)
    where
      or_true : (b : Bool) → (b || true) ≡ true
      or_true true = refl
      or_true false = refl

  pub failed_step : had r ≡ true → sound s.marks s.status ≡ true → passes s.status r ≡ false
      → PcAndIt s (stepped_over s r).state (head_of r).il
  failed_step h d e =
      subst_state (ap (λ (x : Onward ⊤). x.state) (settled s r h d (failed_stepped e)))
    where
      subst_state : {after : Guest} → stepped s s.regs (head_of r).il ≡ after → PcAndIt s after (head_of r).il
      subst_state q = rw q at (over s r)
