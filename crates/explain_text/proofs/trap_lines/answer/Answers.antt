use mathlib.Core.Path.{◌≡◌, ap}
use Prim.Native.Nat.{ℕ}
use Rattle.text.proofs.Appending.{extends_both}
use Rattle.explain_text.specs.Inner.{answer_lines}
use Rattle.explain_text.proofs.trap_lines.answer.Goals as goal
use Rattle.trap.specs.declared.Trap.{Trap}
use Rattle.trap_refusal.specs.declared.TrapRefusal.{TrapRefusal}
use Rattle.std.specs.Prelude.{Result}

-- the lines of an answer that is known
told : (e w : ℕ) {a known : Result Trap TrapRefusal} → a ≡ known → answer_lines e w a ≡ answer_lines e w known
told e w same = ap (answer_lines e w) same

pub returns-in-Ok : goal.returns-in-Ok
returns-in-Ok c =
    rw (told _ _ c.in-Ok.is) (extends_both c.taken.ensures c.addresses.ensures)
