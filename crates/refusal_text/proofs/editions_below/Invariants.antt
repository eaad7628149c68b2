-- The editions that were gone through are appended.
use Rattle.text.specs.Append.{Extends}
use Rattle.refusal_text.specs.Refusal.{editions_below}
use Rattle.refusal_text.proofs.editions_below.Given as goal

abbrev pub invariant-loop-edition : goal.invariant-loop-edition
invariant-loop-edition l = Extends (editions_below l.edition l.mask) l.initial.text l.text
