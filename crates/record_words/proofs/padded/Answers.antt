-- `record_words::padded` meets its contract: one field more stands behind the kind.
-- Assumes nothing.
use Rattle.std.proofs.Common.{◌∷◌, arith}
use Rattle.record_words.specs.Words.{zeros}
use Rattle.record_words.proofs.Placed.{one_more}
use Rattle.record_words.proofs.padded.Goals as goal

pub loop-i-preserved : goal.loop-i-preserved
loop-i-preserved g c =
    one_more (c.args.kind ∷ zeros 15) 1 c.args.fields c.loop-i.i c.loop-i.invariant (omega arith) (omega arith) (omega arith)
