-- `a32_finish::perform::finish` meets its contract: what was described is finished, or refused in the same way.
use Rattle.std.specs.Prelude.{Result, Ok}
use mathlib.Core.Path.{◌≡◌, sym, ap, ◌∙◌}
use mathlib.Core.List.{List}
use Prim.Native.Nat.{ℕ}
use Rattle.exception.specs.declared.state.Guest.{Guest}
use Rattle.a32_access.specs.Transferred.{registers_of, padded}
use Rattle.a32_access.specs.declared.access.Access.{Access}
use Rattle.a32.specs.declared.instruction.InstructionRefusal.{InstructionRefusal}
use Rattle.a32.specs.Promise.{registers_in}
use Rattle.a32_finish.specs.Finish.{performed}
use Rattle.a32_finish.proofs.Answers.{settled, promised}
use Rattle.a32_finish.proofs.perform.finish.Goals as goal

-- the registers that came with the description are those of its access
numbered : (s : Guest) (a : Access) (values : List ℕ) {d : Result Access InstructionRefusal} {numbers : List ℕ} → numbers ≡ registers_in d
    → d ≡ Ok a → performed s a numbers values ≡ performed s a (padded 16 (registers_of a.fields)) values
numbered s a values r e = ap (λ (l : List ℕ). performed s a l values) (r ∙ ap registers_in e)

pub returns-in-Ok : goal.returns-in-Ok
returns-in-Ok c =
    let a = c.args in
    promised a.state a.word a.values
    (c.performed.ensures
    ∙ numbered a.state c.in-Ok.access a.values c.describe-described.ensures.registers c.in-Ok.is
    ∙ settled a.state a.word a.values (sym c.describe-described.ensures.answered.answer ∙ c.in-Ok.is))

pub returns-in-Err : goal.returns-in-Err
returns-in-Err c =
    let a = c.args in
    promised a.state a.word a.values
    (c.refusing.ensures ∙ settled a.state a.word a.values (sym c.describe-described.ensures.answered.answer ∙ c.in-Err.is))
