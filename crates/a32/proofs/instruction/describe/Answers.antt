-- `a32::instruction::describe` meets its contract: the tests that led to each answer are those of `described_answer`, in its order.
-- Assumes nothing.
use mathlib.Core.Path.{◌∙◌, sym}
use Rattle.a32.proofs.Describing.{unsound, thumb, unformed, taken}
use Rattle.a32.proofs.instruction.describe.Goals as goal

pub returns-then-not-sound : goal.returns-then-not-sound
returns-then-not-sound c =
    let a = c.args in
    unsound a.state a.word (sym c.sound.ensures ∙ c.if-not-sound.true)

pub returns-then-t32 : goal.returns-then-t32
returns-then-t32 c =
    let a = c.args in
    thumb a.state a.word (sym c.sound.ensures ∙ c.if-not-sound.false)
    (sym c.t32.ensures ∙ c.if-t32.true)

pub returns-in_default : goal.returns-in_default
returns-in_default c =
    let a = c.args in
    unformed a.state a.word (sym c.sound.ensures ∙ c.if-not-sound.false)
    (sym c.t32.ensures ∙ c.if-t32.false)
    c.decode.ensures.answer c.in_default.is

pub returns : goal.returns
returns c =
    let a = c.args in
    taken a.state a.word (sym c.sound.ensures ∙ c.if-not-sound.false)
    (sym c.t32.ensures ∙ c.if-t32.false) c.decode.ensures.answer c.in-Some.is
    c.bank_of.ensures.regs c.bank_of.ensures.pc c.bank_of.ensures.mode
    c.access_in.ensures
    c.registers_of-numbers.ensures
