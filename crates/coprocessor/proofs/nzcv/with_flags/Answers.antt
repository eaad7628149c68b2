-- `coprocessor::nzcv::with_flags` meets its contract: each mask is a field in its place, and joined from the top down they add up.
use native.Mathlib.Omega.{arith}
use lib.Bits.{and_high}
use Rattle.status.proofs.Masks.{or_next}
use Rattle.coprocessor.specs.Flags.{with_flags}
use Rattle.coprocessor.proofs.nzcv.with_flags.Goals as goal

pub returns : goal.returns
unfolding with_flags
returns c =
    or_next 28 (and_high c.args.value 4 28) (and_high c.args.status 28 0) (omega arith) (omega arith)
