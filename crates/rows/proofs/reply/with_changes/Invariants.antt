use mathlib.Core.Path.{◌≡◌}
use Prim.Native.Nat.{◌≤◌, ◌-◌}
use Rattle.rows.specs.Reply.{with_changes}
use Rattle.rows.proofs.reply.with_changes.Given as goal

abbrev pub invariant-loop-place : goal.invariant-loop-place
invariant-loop-place l = (l.place ≤ 48) × (l.next ≡ with_changes l.initial.next l.before l.after l.place)

abbrev pub decreases-loop-place : goal.decreases-loop-place
decreases-loop-place l = 48 - l.place
