-- A WHOLE NEST OF CALLS, each as promised: the law of nests (`nest_back`), of the code.
use mathlib.Core.Path.{◌≡◌, refl, sym, ap, ◌∙◌, subst}
use mathlib.Core.Bool.{true}
use mathlib.Core.List.{List, [], ◌∷◌}
use Rattle.exception.specs.declared.state.Guest.{Guest}
use Rattle.guest.specs.declared.injector.Injected.{Injected}
use Rattle.guest.specs.declared.injection.Injection.{Injection}
use Rattle.guest.specs.Inject.{injected}
use Rattle.guest.proofs.Answers.{promised}
use Rattle.pending.specs.declared.Kind.{Kind}
use Rattle.pending.specs.Step.{Step, step_of}
use Rattle.delivery.specs.Answer.{plain_answer}
use Rattle.delivery.specs.Deliver.{guest_delivery}
use Rattle.resume.specs.declared.Resumed.{Resumed}
use Rattle.resume.specs.Return.{returned}
use Rattle.resume.specs.Same.{SameBut}
use Rattle.resume.specs.Nest.{modes_of, written_by, distinct_modes, Typed}
use Rattle.resume.proofs.Answers as return
use Rattle.nest.specs.Entry.{Entry, injecting, delivering, TakenIn, after, correction_of}
use Rattle.nest.specs.Nest.{AllTaken, nested, AllReturn, exceptions}
use Rattle.nest.specs.Run.{Entered, Made, Run, entries_of, AllReturned}
use Rattle.nest.proofs.Nests.{nest_back}

-- a call as promised takes the exception, and leaves the defined state
entered_taken : (s : Guest) (e : Entry) (left : Guest) → Entered s e left → TakenIn s e × (after s e ≡ left)
unfolding injected
entered_taken s (injecting i) left x =
    let same = x.1.answer in (
      sym (ap (λ (r : Injected). r.answer) same) ∙ x.2,
      sym (ap (λ (r : Injected). r.state) same) ∙ x.3,
    )
entered_taken s (delivering l k) left x =
    let same = x.3.answer ∙ ap (λ (w : List Kind). step_of guest_delivery w s) x.2 in (
      sym (ap (λ (r : Step Guest). r.answer) same) ∙ ap plain_answer x.4,
      sym (ap (λ (r : Step Guest). r.state) same) ∙ x.5,
    )

-- a nest of calls is the defined nest of its exceptions
as_nested : (ms : List Made) (s last : Guest) → Run s ms last → AllTaken s (entries_of ms) × (nested s (entries_of ms) ≡ last)
as_nested [] s last run = (tt, run)
as_nested (m ∷ ms) s last run =
    let first = entered_taken s m.entry m.left run.0 in
    let rest = as_nested ms m.left run.1.0 run.1.1 in (
      (first.0, subst (λ (g : Guest). AllTaken g (entries_of ms)) (sym first.1) rest.0),
      ap (λ (g : Guest). (returned (nested g (entries_of ms)) (correction_of s m.entry)).state) first.1
          ∙ ap (λ (g : Guest). (returned g (correction_of s m.entry)).state) rest.1
          ∙ sym (ap (λ (r : Resumed). r.state) run.1.2.answer) ∙ run.2,
    )

all_returned : (ms : List Made) (s last : Guest) → Run s ms last → AllReturn s (entries_of ms) → AllReturned ms
all_returned [] s last run a = tt
all_returned (m ∷ ms) s last run a =
    let first = entered_taken s m.entry m.left run.0 in
    let rest = as_nested ms m.left run.1.0 run.1.1 in (
      all_returned ms m.left run.1.0 run.1.1 (subst (λ (g : Guest). AllReturn g (entries_of ms)) first.1 a.0),
      ap (λ (r : Resumed). r.answer) run.1.2.answer
          ∙ sym (ap (λ (g : Guest). (returned (nested g (entries_of ms)) (correction_of s m.entry)).answer) first.1
          ∙ ap (λ (g : Guest). (returned g (correction_of s m.entry)).answer) rest.1) ∙ a.1,
    )

-- OVER RUNS: whatever injections and delivery steps were made and taken, each in the state that the last one left, no two entering the same
-- mode, and then returned in turn: each return answered 0, and the last state is the first one, but for the saved status and link registers
-- of the modes entered and the fault registers written
pub run_back : (ms : List Made) (s last : Guest) → Typed s → Run s ms last → distinct_modes (modes_of (exceptions (entries_of ms))) ≡ true
    → AllReturned ms × SameBut (modes_of (exceptions (entries_of ms))) (written_by (exceptions (entries_of ms))) last s
run_back ms s last typed run d =
    let made = as_nested ms s last run in
    let law = nest_back (entries_of ms) s typed made.0 d in (
      all_returned ms s last run law.0,
      subst (λ (g : Guest). SameBut (modes_of (exceptions (entries_of ms))) (written_by (exceptions (entries_of ms))) g s) made.1 law.1,
    )

-- AND THERE ARE SUCH RUNS: every nest of injections that are taken is one, of calls that answer as defined
abbrev pub injections : List Injection → List Entry
injections [] = []
injections (i ∷ is) = injecting i ∷ injections is

-- the calls of a nest, each with the answer that is defined
abbrev pub defined : Guest → List Entry → List Made
defined s [] = []
defined s (e ∷ es) =
    record { entry = e; left = after s e; back = returned (nested (after s e) es) (correction_of s e) } ∷ defined (after s e) es

pub runs_there : (is : List Injection) (s : Guest) → AllTaken s (injections is)
    → Run s (defined s (injections is)) (nested s (injections is))
unfolding injected
runs_there [] s t = refl
runs_there (i ∷ is) s t =
    let left = after s (injecting i) in (
      (injected s i, promised s i refl, t.0, refl),
      (
        nested left (injections is),
        runs_there is left t.1,
        return.promised (nested left (injections is)) (correction_of s (injecting i))
            refl,
      ),
      refl,
    )
