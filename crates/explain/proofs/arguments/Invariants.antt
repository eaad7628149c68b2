-- `explain::arguments` meets its contract. The invariant: bytes were appended to the text that was empty.
-- Assumes nothing.
use Rattle.explain.specs.Arguments.{Lengthened}
use Rattle.explain.proofs.arguments.Given as goal

abbrev pub invariant-loop-i : goal.invariant-loop-i
invariant-loop-i g l = Lengthened l.initial.text l.text
