-- `Text::append` meets its contract. The invariant: what is left of the bytes, appended to the text so far, gives what all of them give.
-- Assumes nothing.
use mathlib.Core.Path.{◌≡◌}
use Prim.Native.Nat.{◌-◌}
use lib.ListN.{length, drop}
use lib.Seq.{sets}
use Rattle.text.specs.Append.{end_of}
use Rattle.text.proofs.Text.append.Given as goal

abbrev pub invariant-loop-i : goal.invariant-loop-i
invariant-loop-i l =
    let text = l.initial.self.bytes in
    let room = length text.now in
    (length l.self.bytes.now ≡ room) × (l.self.bytes.ghost_name ≡ text.ghost_name)
    × (sets l.self.bytes.now l.end (drop l.i l.bytes) ≡ sets text.now l.initial.self.end l.bytes)
    × (end_of room l.end (length l.bytes - l.i) ≡ end_of room l.initial.self.end (length l.bytes))
