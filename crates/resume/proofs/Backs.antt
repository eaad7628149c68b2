-- ONE EXCEPTION: the return right after it, with its correction, answers 0 and gives the first state again, but for the saved status and
-- link register of the mode entered and the fault registers written, each of which is as the exception left it. Over every row, so that
-- injections and deliveries are one law.
use Rattle.std.specs.Prelude.{Ok}
use mathlib.Core.Path.{◌≡◌, refl, sym, ap, ◌∙◌, subst}
use mathlib.Core.Bool.{true}
use mathlib.Core.List.{List, [], ◌∷◌}
use Prim.Native.Nat.{ℕ, ◌<◌}
use native.Mathlib.Omega.{arith}
use lib.ListN.{length}
use Rattle.signed.specs.Signed.{signed, difference_of}
use Rattle.signed.proofs.Sums.{sum_back}
use Rattle.status.specs.declared.Mode.{Mode}
use Rattle.status.specs.declared.Mode.TheVariants.{Supervisor, Abort, Undefined, Fiq, Irq}
use Rattle.status.specs.Mode.{mode_number}
use Rattle.status.specs.Register.{link_register}
use Rattle.status.specs.Entry.{t32}
use Rattle.status.specs.Sound.{sound}
use Rattle.status.proofs.Again.{sound_again}
use Rattle.status.proofs.Fields.{entry_fields}
use Rattle.exception.specs.declared.state.Saved.{Saved}
use Rattle.exception.specs.declared.state.FaultRegisters.{FaultRegisters}
use Rattle.exception.specs.declared.state.Guest.{Guest}
use Rattle.exception.specs.declared.entry.Row.{Row}
use Rattle.exception.specs.State.{register_in}
use Rattle.exception.specs.Entry.{link_from, correction_in, saved_in, entered}
use Rattle.exception.proofs.Changed.{changed_same}
use Rattle.exception.proofs.Registers.{link_held}
use Rattle.resume.specs.Return.{mode_of, banked, saved_of, restored, back, returned}
use Rattle.resume.specs.Same.{EqualBut, saved_words, fault_words, link_place, saved_place, SameBut}
use Rattle.resume.specs.Nest.{Typed, undone}
use Rattle.resume.proofs.Places.{saved_set}
use Rattle.resume.proofs.Answers.{Passes, returns_so}
use Rattle.resume.proofs.Sames.{one_set}

-- a mode that an exception enters has a saved word, reads back what was saved there, and has one of the 31 registers for its link
mode_banked : (m : Mode) → banked (mode_number m) ≡ true
mode_banked Supervisor = refl
mode_banked Abort = refl
mode_banked Undefined = refl
mode_banked Fiq = refl
mode_banked Irq = refl

saved_back : (m : Mode) (s : Saved) (w : ℕ) → saved_of (mode_number m) (saved_in m s w) ≡ w
saved_back Supervisor s w = refl
saved_back Abort s w = refl
saved_back Undefined s w = refl
saved_back Fiq s w = refl
saved_back Irq s w = refl

link_low : (m : Mode) → link_place m < 31
link_low Supervisor = omega arith
link_low Abort = omega arith
link_low Undefined = omega arith
link_low Fiq = omega arith
link_low Irq = omega arith

module _ (s : Guest) (row : Row) (faults : FaultRegisters) where
  pub mode_entered : mode_of (entered s row faults) ≡ mode_number row.mode
  unfolding entered
  mode_entered = (entry_fields s.marks row.mode row.a row.f s.status s.sctlr).m4_0

  saved_entered : saved_of (mode_of (entered s row faults)) (entered s row faults).saved ≡ s.status
  unfolding entered
  saved_entered =
      ap (λ (n : ℕ). saved_of n (saved_in row.mode s.saved s.status)) mode_entered ∙ saved_back row.mode s.saved s.status

  -- so it returns: it is sound, its mode has a saved word, and that word is the first state's status word
  pub passes_entered : sound s.marks s.status ≡ true → Passes (entered s row faults)
  unfolding entered
  passes_entered ok =
      record {
        status = sound_again s.marks row.mode row.a row.f s.status s.sctlr ok;
        mode = ap banked mode_entered ∙ mode_banked row.mode;
        saved = ap (sound s.marks) saved_entered ∙ ok;
      }

  module _ (link : row.link ≡ link_place row.mode) where
    module _ (typed : Typed s) where
      link_below : row.link < length s.regs
      link_below = subst (λ (n : ℕ). row.link < n) (sym typed.size) (subst (λ (n : ℕ). n < 31) (sym link) (link_low row.mode))

      link_entered : register_in (entered s row faults).regs (link_register (mode_of (entered s row faults))) ≡ link_from s row
      link_entered =
          ap (λ (n : ℕ). register_in (entered s row faults).regs (link_register n)) mode_entered
          ∙ ap (register_in (entered s row faults).regs) (sym link)
          ∙ link_held s row faults link_below

      -- the link less the correction is the first PC, wherever in its range that was
      pc_back : difference_of (register_in (entered s row faults).regs (link_register (mode_of (entered s row faults))))
          (signed (correction_in row (t32 s.status)))
          ≡ s.pc
      pc_back =
          ap (λ (n : ℕ). difference_of n (signed (correction_in row (t32 s.status)))) link_entered
          ∙ sum_back s.pc (signed (correction_in row (t32 s.status))) typed.pc

      restored_back : back (entered s row faults) (correction_in row (t32 s.status)) ≡ undone s row faults
      unfolding restored entered
      restored_back = changed_same s refl pc_back saved_entered refl refl

      -- THE RETURN RIGHT AFTER IT
      pub back_again : sound s.marks s.status ≡ true
          → returned (entered s row faults) (correction_in row (t32 s.status)) ≡ record { answer = Ok tt; state = undone s row faults }
      back_again ok =
          returns_so (entered s row faults) (correction_in row (t32 s.status)) (passes_entered ok)
          ∙ ap (λ (g : Guest). record { answer = Ok tt; state = g }) restored_back

    -- which is the first state, but for these
    pub undone_same : (written : List ℕ) → EqualBut written (fault_words faults) (fault_words s.faults)
        → SameBut (row.mode ∷ []) written (undone s row faults) s
    undone_same written e =
        record {
          regs = subst (λ (k : ℕ). EqualBut (k ∷ []) (undone s row faults).regs s.regs) link
              (one_set s.regs row.link (link_from s row));
          pc = refl;
          status = refl;
          saved =
              subst (λ (l : List ℕ). EqualBut (saved_place row.mode ∷ []) l (saved_words s.saved))
              (sym (saved_set row.mode s.saved s.status))
              (one_set (saved_words s.saved) (saved_place row.mode) s.status);
          faults = e;
          sctlr = refl;
          vbar = refl;
          ttbcr = refl;
          marks = refl;
        }
