-- The lines of the editions that were gone through are appended.
use Rattle.text.specs.Append.{Extends}
use Rattle.trap_text.specs.Shown.{told_text, lines_below}
use Rattle.trap_text.proofs.lines_in.Given as goal

abbrev pub invariant-loop-e : goal.invariant-loop-e
invariant-loop-e l = Extends (lines_below l.e l.mask (λ n. told_text l.explained n l.esr l.far l.hpfar)) l.initial.text l.text
