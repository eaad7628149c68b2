-- The loop of `state_words::with_registers`: the first i registers stand over the first i words.
use Rattle.std.proofs.Common.{◌≡◌, ◌++◌, take, drop}
use Rattle.state_words.proofs.with_registers.Given as goal

abbrev pub invariant-loop-i : goal.invariant-loop-i
invariant-loop-i l = l.after ≡ take l.i l.regs ++ drop l.i l.initial.after
