-- The fault by which an abort is passed on to the guest: the same kind at the same level, where an injection has it. An abort on a walk has
-- none: no injected fault is on a walk.
use Rattle.std.specs.Prelude.{ℕ, cond, Option, Some, None, option_map}
use Rattle.bits.specs.Test.{between}
use Rattle.fault.specs.declared.Fault.{Fault}
use Rattle.cause.specs.declared.kind.Cause.{Cause}
use Rattle.cause.specs.declared.kind.Kind.{Kind}
use Rattle.cause.specs.declared.kind.Level.{Level}

-- 1 to 3: no injected fault has another
abbrev pub passing_level : Option Level → Option ℕ
passing_level None = None
passing_level (Some Level.Minus1) = None
passing_level (Some (Level.At n)) = cond (between 1 3 n) (Some n) None

abbrev pub by_kind : Kind → Option ℕ → Option Fault
by_kind Kind.External level = Some Fault.External
by_kind Kind.Translation level = option_map Fault.Translation level
by_kind Kind.AccessFlag level = option_map Fault.AccessFlag level
by_kind Kind.Permission level = option_map Fault.Permission level
by_kind Kind.Alignment level = Some Fault.Alignment
by_kind Kind.AddressSize level = None
by_kind Kind.Parity level = None
by_kind Kind.TlbConflict level = None
by_kind Kind.Update level = None
by_kind Kind.Lockdown level = None
by_kind Kind.Exclusive level = None

abbrev pub passed_on : Cause → Option Fault
passed_on c = cond c.walk None (by_kind c.kind (passing_level c.level))
