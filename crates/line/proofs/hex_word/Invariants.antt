-- `line::hex_word` meets its contract. The invariant: the value of the digits so far, with the rest, gives what all of them give, and has
-- room for one more digit. Assumes nothing.
use mathlib.Core.Path.{◌≡◌}
use Prim.Native.Nat.{◌^◌, ◌<◌}
use lib.ListN.{drop}
use Rattle.line.specs.Line.{word_from}
use Rattle.line.proofs.hex_word.Given as goal

abbrev pub invariant-loop-byte : goal.invariant-loop-byte
invariant-loop-byte l =
    (l.value < 16 ^ l.byte-index) × (word_from l.value (drop l.byte-index l.digits) ≡ word_from 0 l.digits)
