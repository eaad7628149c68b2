-- `a32_rule::answer::decode` meets its contract: the word is put together again, and its fields are legal.
-- Assumes nothing.
use Rattle.a32_rule.proofs.Answers.{taken, unlike, unlawful}
use Rattle.a32_rule.proofs.answer.decode.Goals as goal
use Rattle.a32_rule.proofs.answer.decode.Goals.{else-again-bits-via-then-again-bits+else-legal, else-again-bits-via-else-again-bits}

pub returns-then-legal : goal.returns-then-legal
returns-then-legal c =
    taken c.args.word c.fields_at-f.ensures c.joined-again.ensures c.if-again-bits.true c.legal.ensures c.if-legal.true

pub returns-else-again-bits : goal.returns-else-again-bits
returns-else-again-bits c =
    let word = c.args.word in
    elim c.else-again-bits.branch [
      | else-again-bits-via-then-again-bits+else-legal w ↦
          unlawful word c.fields_at-f.ensures c.joined-again.ensures w.legal.ensures w.if-legal.false
      | else-again-bits-via-else-again-bits w ↦ unlike word c.fields_at-f.ensures c.joined-again.ensures w.if-again-bits.false
    ]
