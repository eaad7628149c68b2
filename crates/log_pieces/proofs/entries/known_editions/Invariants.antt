-- `log_pieces::entries::known_editions` meets its contract. The invariant: the mask of the editions that were gone through, and the next
-- one's bit. Assumes nothing.
use mathlib.Core.Path.{◌≡◌}
use Prim.Native.Nat.{◌^◌}
use Rattle.edition.specs.Mask.{mask_below}
use Rattle.bits.specs.Among.{among}
use Rattle.log_pieces.specs.Text.{shown}
use Rattle.log_pieces.proofs.entries.known_editions.Given as goal

abbrev pub invariant-loop-e : goal.invariant-loop-e
invariant-loop-e l = (l.bit ≡ 2 ^ l.e) × (l.mask ≡ mask_below l.e (among (shown l.log).editions))
