use mathlib.Core.Path.{◌≡◌, ap}
use Prim.Native.Nat.{ℕ}
use Rattle.trap_refusal.specs.declared.TrapRefusal.{TrapRefusal}
use Rattle.text.proofs.Appending.{extends_both}
use Rattle.explain_text.specs.Inner.{refusal_lines}
use Rattle.explain_text.proofs.trap_lines.refusal.Goals as goal

-- the lines of a refusal that is known
told : (e w : ℕ) {r known : TrapRefusal} → r ≡ known → refusal_lines e w r ≡ refusal_lines e w known
told e w same = ap (refusal_lines e w) same

pub returns-in-Hpfar : goal.returns-in-Hpfar
returns-in-Hpfar c =
    rw (told _ _ c.in-Hpfar.is) (extends_both c.hpfar_line.ensures c.word_lines.ensures)

pub returns-in-Far : goal.returns-in-Far
returns-in-Far c =
    rw (told _ _ c.in-Far.is) (extends_both c.append.ensures c.word_lines-in-Far.ensures)
