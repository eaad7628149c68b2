-- What finishing a described load or store leaves alone, and what it makes: for every state, word and values.
use mathlib.Core.Path.{◌≡◌, refl, sym, subst, ◌∙◌}
use mathlib.Core.Bool.{Bool, true, false, cond}
use mathlib.Core.List.{List}
use Rattle.std.specs.Prelude.{Option, Some, None, Result, Ok, Err}
use Prim.Native.Nat.{ℕ}
use Rattle.bits.specs.Field.{bit_of}
use Rattle.status.specs.It.{it_advanced}
use Rattle.status.specs.Sound.{sound}
use Rattle.exception.specs.declared.state.Guest.{Guest}
use Rattle.step.specs.Step.{stepped}
use Rattle.step.proofs.Frame as step
use Rattle.step.proofs.Frame.{Kept, Stepped, steps}
use Rattle.a32_access.specs.Transferred.{registers_of, padded}
use Rattle.a32_access.specs.declared.access.Access.{Access}
use Rattle.a32_transfer.specs.declared.shape.Shape.{Shape}
use Rattle.a32_transfer.specs.Shape.{shape_of}
use Rattle.a32_transfer.specs.Landing.{written_back}
use Rattle.a32.specs.declared.instruction.InstructionRefusal.{InstructionRefusal}
use Rattle.a32.specs.Promise.{described_answer}
use Rattle.a32_finish.specs.Branch.{with_t, target_of, branched}
use Rattle.a32_finish.specs.Finish.{mode_of, gone_on, landing_in, loaded, stored, to_load, to_store, performed, finished_by, finished}
use Rattle.a32_finish.proofs.Branches.{sound_with_t}

-- ---- a store

-- PC and the status word move on, and of the registers the base alone changes, where it is written back
pub store_steps : (s : Guest) (a : Access) → Stepped s (stored s a) true
unfolding stored
store_steps s a = steps s _ true

pub store_registers : (s : Guest) (a : Access) → (stored s a).regs ≡ written_back s.regs s.pc (mode_of s.status) a
unfolding stored
store_registers s a = step.registers_given s _ true

-- ---- a load

-- where a branch leads: PC, and the status word with T
abbrev pub Branched : Guest → ℕ → Guest → Type 0
Branched s v after = (after.pc ≡ target_of v) × (after.status ≡ with_t (it_advanced s.status) (bit_of v 0))

branches : (s : Guest) (regs : List ℕ) (v : ℕ) → Branched s v (gone_on s regs (Some v))
unfolding branched stepped
branches s regs v = (refl, refl)

module _ (s : Guest) (a : Access) (shape : Shape) (numbers values : List ℕ) where
  -- without register 15 PC and the status word move on
  pub load_steps : (landing_in s a shape numbers values).branch ≡ None → Stepped s (loaded s a shape numbers values) true
  unfolding loaded
  load_steps e =
      subst (λ (n : Option ℕ). Stepped s (gone_on s (landing_in s a shape numbers values).regs n) true) (sym e)
      (steps s (landing_in s a shape numbers values).regs true)

  -- with it PC is where it leads, and bit 0 chooses the state
  pub load_branches : {v : ℕ} → (landing_in s a shape numbers values).branch ≡ Some v → Branched s v (loaded s a shape numbers values)
  unfolding loaded
  load_branches {v} e =
      subst (λ (n : Option ℕ). Branched s v (gone_on s (landing_in s a shape numbers values).regs n)) (sym e)
      (branches s (landing_in s a shape numbers values).regs v)

gone_kept : (s : Guest) (regs : List ℕ) (next : Option ℕ) → Kept s (gone_on s regs next)
unfolding branched stepped
gone_kept s regs None = record { saved = refl; faults = refl; sctlr = refl; vbar = refl; ttbcr = refl; marks = refl }
gone_kept s regs (Some v) = record { saved = refl; faults = refl; sctlr = refl; vbar = refl; ttbcr = refl; marks = refl }

gone_registers : (s : Guest) (regs : List ℕ) (next : Option ℕ) → (gone_on s regs next).regs ≡ regs
unfolding branched stepped
gone_registers s regs None = refl
gone_registers s regs (Some v) = refl

-- the registers are those that were loaded, whatever comes next
pub load_registers : (s : Guest) (a : Access) (shape : Shape) (numbers values : List ℕ)
    → (loaded s a shape numbers values).regs ≡ (landing_in s a shape numbers values).regs
unfolding loaded
load_registers s a shape numbers values =
    gone_registers s (landing_in s a shape numbers values).regs (landing_in s a shape numbers values).branch

-- ---- whatever is answered

-- THE FRAME: nothing but the registers, PC and the status word is another
performed_kept : (s : Guest) (a : Access) (numbers values : List ℕ) → Kept s (performed s a numbers values).state
unfolding performed loaded
performed_kept s a numbers values = go (shape_of a.fields).load
  where
    go : (b : Bool) → Kept s (cond b (to_load s a (shape_of a.fields) numbers values) (to_store s a (shape_of a.fields) numbers)).state
    go true = gone_kept s (landing_in s a (shape_of a.fields) numbers values).regs
        (landing_in s a (shape_of a.fields) numbers values).branch
    go false = (store_steps s a).kept

by_description_lem : (s : Guest) (d : Result Access InstructionRefusal) (values : List ℕ) → Kept s (finished_by s d values).state
by_description_lem s (Ok a) values = performed_kept s a (padded 16 (registers_of a.fields)) values
by_description_lem s (Err refusal) values = step.same s

pub frame_kept : (s : Guest) (w : ℕ) (values : List ℕ) → Kept s (finished s w values).state
unfolding finished
frame_kept s w values = by_description_lem s (described_answer s w) values

-- THE STATE AFTER IT is sound where the old one was
gone_sound : (s : Guest) (regs : List ℕ) (next : Option ℕ) → sound s.marks (gone_on s regs next).status ≡ sound s.marks s.status
unfolding branched
gone_sound s regs None = step.sound_after s regs true
gone_sound s regs (Some v) = sound_with_t (stepped s regs true).status (bit_of v 0) s.marks ∙ step.sound_after s regs true

performed_sound : (s : Guest) (a : Access) (numbers values : List ℕ)
    → sound s.marks (performed s a numbers values).state.status ≡ sound s.marks s.status
unfolding performed loaded stored
performed_sound s a numbers values = go (shape_of a.fields).load
  where
    go : (b : Bool) → sound s.marks (cond b (to_load s a (shape_of a.fields) numbers values)
        (to_store s a (shape_of a.fields) numbers)).state.status
        ≡ sound s.marks s.status
    go true = gone_sound s (landing_in s a (shape_of a.fields) numbers values).regs
        (landing_in s a (shape_of a.fields) numbers values).branch
    go false = step.sound_after s _ true

sound_by_lem : (s : Guest) (d : Result Access InstructionRefusal) (values : List ℕ)
    → sound s.marks (finished_by s d values).state.status ≡ sound s.marks s.status
sound_by_lem s (Ok a) values = performed_sound s a (padded 16 (registers_of a.fields)) values
sound_by_lem s (Err refusal) values = refl

pub sound_after : (s : Guest) (w : ℕ) (values : List ℕ)
    → sound s.marks (finished s w values).state.status ≡ sound s.marks s.status
unfolding finished
sound_after s w values = sound_by_lem s (described_answer s w) values
