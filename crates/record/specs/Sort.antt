-- What sort of exception a record tells of, as far as rules beyond its layout go by it: an abort with its fields; classes 0x22 and 0x34, a
-- PC alignment fault and a watchpoint, which have a virtual address; an SError interrupt with its fields; or a plain one.
use Rattle.std.specs.Prelude.{cond, eqb}
use Rattle.record.specs.declared.kinds.Record.{Record}
use Rattle.record.specs.declared.kinds.Sort.{Sort}

abbrev pub sort_of : Record → Sort
sort_of (Record.Plain r) = cond (eqb r.class 0x22) Sort.Addressed Sort.Plain
sort_of (Record.Wfx r) = Sort.Plain
sort_of (Record.Mcr r) = Sort.Plain
sort_of (Record.Mcrr r) = Sort.Plain
sort_of (Record.Ldc r) = Sort.Plain
sort_of (Record.Simd r) = Sort.Plain
sort_of (Record.Call r) = Sort.Plain
sort_of (Record.Smc r) = Sort.Plain
sort_of (Record.InstructionAbort r) = Sort.InstructionAbort r
sort_of (Record.DataAbort r) = Sort.DataAbort r
sort_of (Record.Debug r) = Sort.Plain
sort_of (Record.Step r) = Sort.Plain
sort_of (Record.Watchpoint r) = Sort.Addressed
sort_of (Record.SError r) = Sort.SError r
sort_of (Record.System r) = Sort.Plain
