-- Bytes appended to a text one after the other, whatever they are.
-- Assumes nothing.
use mathlib.Core.List.{[], ◌++◌}
use Prim.Native.Nat.{◌≤◌}
use lib.ListN.{length}
use Rattle.io.specs.Counts.{IsPrefixLen}
use Rattle.text.specs.declared.Text.{Text}
use Rattle.text.proofs.Appending.{appends_counts, extends_both, extends_none}
use Rattle.explain.specs.Arguments.{Lengthened}

pub unchanged : (text : Text) → Lengthened text text
unchanged text = record { bytes = []; appended = extends_none text }

pub lengthened_both : {old middle new : Text} → Lengthened old middle → Lengthened middle new → Lengthened old new
lengthened_both a b = record { bytes = a.bytes ++ b.bytes; appended = extends_both a.appended b.appended }

-- the end of a text stays within its buffer
pub stays_within : {old new : Text} → Lengthened old new → old.end ≤ length old.bytes.now → IsPrefixLen new.end new.bytes.now
stays_within a start = appends_counts start a.appended.appended
