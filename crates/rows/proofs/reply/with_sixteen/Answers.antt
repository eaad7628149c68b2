use mathlib.Core.Path.{refl}
use lib.Dec.{lit≤}
use Rattle.rows.proofs.reply.with_sixteen.Goals as goal

pub loop-i-init : goal.loop-i-init
loop-i-init c = (lit≤ tt, refl)
