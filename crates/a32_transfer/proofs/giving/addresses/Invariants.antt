-- The loop of `a32_transfer::giving::addresses`: the first i addresses stand in their places, and `address` is the next.
use Rattle.std.proofs.Common.{◌≡◌, ◌+◌, ◌*◌, ◌%◌, ◌^◌}
use Rattle.a32_access.specs.Transferred.{padded}
use Rattle.a32_transfer.specs.Giving.{firsts, address_at}
use Rattle.a32_transfer.proofs.giving.addresses.Given as goal

abbrev pub invariant-loop-i : goal.invariant-loop-i
invariant-loop-i l =
    record { next : l.address ≡ (l.first + 4 * l.i) % 2 ^ 32; held : l.all ≡ padded 16 (firsts (address_at l.first) l.i) }
