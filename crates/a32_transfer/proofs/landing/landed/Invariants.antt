-- The loop of `a32_transfer::landing::landed`: the first i registers are loaded.
use Rattle.std.proofs.Common.{◌≡◌}
use Rattle.a32_transfer.specs.Landing.{loaded_first}
use Rattle.a32_transfer.proofs.landing.landed.Given as goal

abbrev pub invariant-loop-i : goal.invariant-loop-i
invariant-loop-i l = l.to ≡ loaded_first l.initial.to.regs l.mode l.big l.shape l.numbers l.values l.i
