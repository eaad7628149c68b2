-- `explain::arguments` meets its contract: the end stays within the line.
-- Assumes nothing.
use Rattle.std.proofs.Common.{rules, ◌≤◌, length, arith}
use Rattle.explain.proofs.Lengthening.{unchanged, lengthened_both, stays_within}
use Rattle.explain.proofs.arguments.Goals as goal

pub loop-i-init : goal.loop-i-init
loop-i-init g c = unchanged c.new-text.result

pub loop-i-preserved : goal.loop-i-preserved
loop-i-preserved g c = lengthened_both c.loop-i.invariant c.add_argument.ensures

pub returns : goal.returns
returns g c =
    let start : c.new-text.result.end ≤ length c.new-text.result.bytes.now = omega (arith, c.new-text.ensures.empty) in
    let within = stays_within c.loop-i.invariant start in
    search (rules, within, c.loop-i.invariant.appended.same_buffer)
