-- The loop of `state_words::registers_in`: the first i registers are the first i words.
use Rattle.std.proofs.Common.{◌≡◌, ◌++◌, take, drop, replicate}
use Rattle.state_words.proofs.registers_in.Given as goal

abbrev pub invariant-loop-i : goal.invariant-loop-i
invariant-loop-i l = l.regs ≡ take l.i l.words ++ drop l.i (replicate 31 0)
