-- The execution state that a trap came from (02, C-23): the caller says it, and every rule that goes by it asks one test.
use Rattle.std.specs.Prelude.{Bool, true, false}
use Rattle.record.specs.declared.origin.Origin.{Origin}

abbrev pub from_aarch64 : Origin → Bool
from_aarch64 Origin.AArch32 = false
from_aarch64 Origin.AArch64 = true
