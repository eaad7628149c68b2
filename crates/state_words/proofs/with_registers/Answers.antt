-- `state_words::with_registers` meets its contract: one register more stands over its word.
-- Assumes nothing.
use Rattle.std.proofs.Common.{List, ℕ, get_or, set, ap, ◌∙◌, arith}
use Rattle.state_words.proofs.Copy.{one_more}
use Rattle.state_words.proofs.with_registers.Goals as goal

pub loop-i-preserved : goal.loop-i-preserved
loop-i-preserved c =
    let regs = c.args.regs in
    let i = c.loop-i.i in
    ap (λ (l : List ℕ). set l i (get_or regs i 0)) c.loop-i.invariant ∙ one_more c.args.words regs i (omega arith) (omega arith)
