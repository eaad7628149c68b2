-- The loop of `a32_transfer::giving::given`: what the first i registers give stands in its places.
use Rattle.std.proofs.Common.{◌≡◌}
use Rattle.a32_access.specs.Transferred.{padded}
use Rattle.a32_transfer.specs.Giving.{firsts, given_at}
use Rattle.a32_transfer.proofs.giving.given.Given as goal

abbrev pub invariant-loop-i : goal.invariant-loop-i
invariant-loop-i l = l.all ≡ padded 16 (firsts (given_at l.bank.regs l.bank.pc l.bank.mode l.big l.sas l.numbers) l.i)
