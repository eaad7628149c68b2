-- `log_section::entry::skip` meets its contract.
-- Assumes nothing.
use mathlib.Core.Path.{sym, ap, ◌∙◌}
use Prim.Native.Nat.{◌+◌, ◌-◌}
use native.Mathlib.Omega.{arith}
use Rattle.std.specs.Prelude.{Option}
use Rattle.log_section.specs.declared.section.Section.{Section}
use Rattle.log_section.specs.Look.{moved_past, skip_from}
use Rattle.log_section.proofs.Places.{skip_none, skip_more}
use Rattle.log_section.proofs.entry.skip.Goals as goal

pub returns-in_default : goal.returns-in_default
returns-in_default c =
    let l = c.loop in
    sym (skip_none c.args.log.now (c.args.n - l.counter) l.place (sym c.section_at.ensures ∙ c.in_default.is)) ∙ l.invariant

pub loop-preserved : goal.loop-preserved
loop-preserved c =
    let l = c.loop in
    let s = c.args.log.now in
    let left = c.args.n - (l.counter + 1) in
    sym (skip_more s (c.args.n - l.counter) left l.place (omega arith)
    ∙ ap (λ (x : Option Section). skip_from s left (moved_past x l.place)) (sym c.section_at.ensures ∙ c.in-Some.is))
    ∙ l.invariant
