-- A WHOLE NEST: any list of injections and deliveries, each taken in the state that the last one left, no two entering the same mode, then
-- returned in turn, the last first: each return answers 0, and the first state comes again, but for the saved status and link registers of
-- the modes entered and the fault registers written. The law over rows (resume, `nest_same`), at the rows of the two tables.
use mathlib.Core.Path.{◌≡◌, refl, sym, ap, ap₂, ◌∙◌, subst}
use mathlib.Core.Bool.{true}
use mathlib.Core.List.{List, [], ◌∷◌}
use Rattle.signed.specs.declared.Signed.{Signed}
use Rattle.exception.specs.declared.state.Guest.{Guest}
use Rattle.resume.specs.declared.Resumed.{Resumed}
use Rattle.resume.specs.Return.{returned}
use Rattle.resume.specs.Same.{SameBut, OnlyMoved}
use Rattle.resume.specs.Nest.{taken, correction_at, modes_of, written_by, distinct_modes, Typed}
use Rattle.resume.specs.Nest as rows
use Rattle.resume.proofs.Answers.{only_moved}
use Rattle.resume.proofs.Sames.{same_refl, moved_trans}
use Rattle.resume.proofs.Nests.{nest_same}
use Rattle.nest.specs.Entry.{Entry, exception_of, TakenIn, after, correction_of}
use Rattle.nest.specs.Nest.{AllTaken, nested, AllReturn, last_left, exceptions}
use Rattle.nest.proofs.Entries.{all_proper, taken_sound, taken_leaves, same_correction}

-- the return of the first, over its row
as_row : (s : Guest) (e : Entry) (es : List Entry) → TakenIn s e → nested (after s e) es ≡ rows.nested (after s e) (exceptions es)
    → returned (nested (after s e) es) (correction_of s e)
    ≡ returned (rows.nested (taken s (exception_of e)) (exceptions es)) (correction_at s (exception_of e))
as_row s e es t inner =
    ap₂ (λ (g : Guest) (c : Signed). returned g c) (inner ∙ ap (λ (g : Guest). rows.nested g (exceptions es)) (taken_leaves s e t))
    (same_correction s e)

as_rows : (es : List Entry) (s : Guest) → AllTaken s es → nested s es ≡ rows.nested s (exceptions es)
as_rows [] s t = refl
as_rows (e ∷ es) s t = ap (λ (r : Resumed). r.state) (as_row s e es t.0 (as_rows es (after s e) t.1))

return_as_rows : (es : List Entry) (s : Guest) → AllTaken s es → rows.AllReturn s (exceptions es) → AllReturn s es
return_as_rows [] s t a = tt
return_as_rows (e ∷ es) s t a = (
  return_as_rows es (after s e) t.1 (subst (λ (g : Guest). rows.AllReturn g (exceptions es)) (sym (taken_leaves s e t.0)) a.0),
  ap (λ (r : Resumed). r.answer) (as_row s e es t.0 (as_rows es (after s e) t.1)) ∙ a.1,
)

pub nest_back : (es : List Entry) (s : Guest) → Typed s → AllTaken s es → distinct_modes (modes_of (exceptions es)) ≡ true
    → AllReturn s es × SameBut (modes_of (exceptions es)) (written_by (exceptions es)) (nested s es) s
nest_back [] s typed t d = (tt, same_refl [] [] s)
nest_back (e ∷ es) s typed t d =
    let law = nest_same (exceptions (e ∷ es)) s typed (taken_sound s e t.0) (all_proper (e ∷ es)) d in (
      return_as_rows (e ∷ es) s t law.0,
      subst (λ (g : Guest). SameBut (modes_of (exceptions (e ∷ es))) (written_by (exceptions (e ∷ es)))
          g s) (sym (as_rows (e ∷ es) s t)) law.1,
    )

-- EACH AS IT WAS LEFT by the last that wrote it: no return changes anything but status word and PC
pub nest_as_left : (es : List Entry) (s : Guest) → OnlyMoved (nested s es) (last_left s es)
nest_as_left [] s = record { regs = refl; saved = refl; faults = refl; sctlr = refl; vbar = refl; ttbcr = refl; marks = refl }
nest_as_left (e ∷ es) s = moved_trans (only_moved (nested (after s e) es) (correction_of s e)) (nest_as_left es (after s e))
