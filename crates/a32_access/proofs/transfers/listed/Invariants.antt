-- The loop of `a32_access::transfers::listed`: the numbers are the registers of the list below n, and `count` is how many they are.
use Rattle.std.proofs.Common.{◌≡◌, length}
use Rattle.a32_access.specs.Transferred.{listed_below, padded}
use Rattle.a32_access.proofs.transfers.listed.Given as goal

abbrev pub invariant-loop-n : goal.invariant-loop-n
invariant-loop-n l =
    record { counted : l.count ≡ length (listed_below l.n l.list); held : l.numbers ≡ padded 16 (listed_below l.n l.list) }
