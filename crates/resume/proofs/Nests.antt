-- A NEST: any list of exceptions, each taken in the state that the last one left, no two entering the same mode, then returned in turn, the
-- last first: each return answers 0, and the first state comes again, but for the saved status and link registers of the modes entered and
-- the fault registers written.
use Rattle.std.specs.Prelude.{Ok}
use mathlib.Core.Path.{◌≡◌, refl, sym, ap, ◌∙◌, subst}
use mathlib.Core.Bool.{true, false, not}
use mathlib.Core.List.{List, [], ◌∷◌}
use native.Mathlib.Omega.{arith}
use lib.ListN.{length-set}
use borrow.Author.Tests.{not-true}
use Rattle.bits.specs.Among.{among}
use Rattle.bits.proofs.Booleans.{and_left, and_right}
use Rattle.status.specs.Mode.{mode_number}
use Rattle.status.specs.Sound.{sound}
use Rattle.exception.specs.declared.state.FaultRegisters.{FaultRegisters}
use Rattle.exception.specs.declared.state.Guest.{Guest}
use Rattle.exception.specs.declared.entry.Row.{Row}
use Rattle.exception.specs.Entry.{link_from, entered}
use Rattle.resume.specs.declared.Resumed.{Resumed}
use Rattle.resume.specs.Return.{returned}
use Rattle.resume.specs.Same.{each, SameBut, OnlyMoved}
use Rattle.resume.specs.Nest.{Exception, Proper, AllProper, taken, correction_at, last_left, nested, AllReturn, modes_of, written_by}
use Rattle.resume.specs.Nest.{distinct_modes, Typed}
use Rattle.resume.proofs.Answers.{Passes, returns_so, only_moved}
use Rattle.resume.proofs.Sames.{same_refl, same_trans, moved_trans, passes_same, return_same}
use Rattle.resume.proofs.Backs.{mode_entered, passes_entered, back_again, undone_same}

-- an exception leaves a PC of 32 bits and 31 registers
pub typed_again : (s : Guest) (row : Row) (faults : FaultRegisters) → Typed s → Typed (entered s row faults)
unfolding entered
typed_again s row faults t = record { pc = omega arith; size = length-set s.regs row.link (link_from s row) ∙ t.size }

-- one exception more, around a nest of which it is known
module _ (s : Guest) (x : Exception) (xs : List Exception) (typed : Typed s) (ok : sound s.marks s.status ≡ true) (proper : Proper x)
    (other : among (each mode_number (modes_of xs)) (mode_number x.row.mode) ≡ false)
    (inner : SameBut (modes_of xs) (written_by xs) (nested (taken s x) xs) (taken s x)) where
  passes : Passes (taken s x)
  passes = passes_entered s x.row (x.leaves s) ok

  returns_around : (returned (nested (taken s x) xs) (correction_at s x)).answer ≡ Ok tt
  returns_around =
      ap (λ (r : Resumed). r.answer)
      (returns_so (nested (taken s x) xs) (correction_at s x)
      (passes_same (modes_of xs) (written_by xs) inner x.row.mode (mode_entered s x.row (x.leaves s)) other passes))

  same_around : SameBut (modes_of (x ∷ xs)) (written_by (x ∷ xs)) (nested s (x ∷ xs)) s
  same_around =
      same_trans (x.row.mode ∷ []) (modes_of xs) x.writes (written_by xs)
      (return_same (modes_of xs) (written_by xs) inner x.row.mode (mode_entered s x.row (x.leaves s)) other (correction_at s x) passes)
      (subst (λ (g : Guest). SameBut (x.row.mode ∷ []) x.writes g s)
      (sym (ap (λ (r : Resumed). r.state) (back_again s x.row (x.leaves s) proper.link typed ok)))
      (undone_same s x.row (x.leaves s) proper.link x.writes (proper.faults s)))

pub nest_same : (xs : List Exception) (s : Guest) → Typed s → sound s.marks s.status ≡ true → AllProper xs
    → distinct_modes (modes_of xs) ≡ true
    → AllReturn s xs × SameBut (modes_of xs) (written_by xs) (nested s xs) s
nest_same [] s typed ok proper d = (tt, same_refl [] [] s)
nest_same (x ∷ xs) s typed ok proper d =
    let m = x.row.mode in
    let later =
    nest_same xs (taken s x) (typed_again s x.row (x.leaves s) typed) (passes_entered s x.row (x.leaves s) ok).status proper.1
    (and_right (not (among (each mode_number (modes_of xs)) (mode_number m))) (distinct_modes (modes_of xs)) d) in
    let other = not-true _ (and_left (not (among (each mode_number (modes_of xs)) (mode_number m))) (distinct_modes (modes_of xs)) d) in
    ((later.0, returns_around s x xs typed ok proper.0 other later.1), same_around s x xs typed ok proper.0 other later.1)

-- EACH AS IT WAS LEFT: no return changes anything but status word and PC, so that a saved word, a link or a fault register is as the last
-- exception that wrote it left it, whatever they answer
pub as_left : (xs : List Exception) (s : Guest) → OnlyMoved (nested s xs) (last_left s xs)
as_left [] s = record { regs = refl; saved = refl; faults = refl; sctlr = refl; vbar = refl; ttbcr = refl; marks = refl }
as_left (x ∷ xs) s = moved_trans (only_moved (nested (taken s x) xs) (correction_at s x)) (as_left xs (taken s x))
