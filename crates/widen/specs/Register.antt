-- The registers of a short record (request C-11 of document 02): those of the guest's mode, in the AArch64 numbering by the manual's
-- mapping.
use Rattle.std.specs.Prelude.{ℕ, Bool, false, cond, not, ◌&&◌, ◌||◌, eqb}
use Rattle.std.specs.Option.{unwrap_or}
use Rattle.bits.specs.Field.{bit_of}
use Rattle.short_record.specs.declared.kinds.Record.{Record}
use Rattle.status.specs.Register.{held_in}

-- a register's number where it is held; one that is held nowhere stays as found
abbrev pub mapped : ℕ → ℕ → ℕ
mapped mode n = unwrap_or (held_in mode n) n

-- LDC and STC: AM bit 2 marks a literal form, whose Rn is UNKNOWN
abbrev pub literal : ℕ → Bool
literal am = bit_of am 2

-- an UNKNOWN Rn stays as found, also 15
abbrev pub base : ℕ → ℕ → ℕ → ℕ
base mode am rn = cond (literal am) rn (mapped mode rn)

-- a known register is 15, the PC
abbrev pub uses_pc : Record → Bool
uses_pc (Record.Plain r) = false
uses_pc (Record.Wfx r) = false
uses_pc (Record.Mcr r) = eqb r.rt 15
uses_pc (Record.Mcrr r) = eqb r.rt 15 || eqb r.rt2 15
uses_pc (Record.Ldc r) = not (literal r.am) && eqb r.rn 15
uses_pc (Record.Simd r) = false
uses_pc (Record.Call r) = false
uses_pc (Record.Smc r) = false
uses_pc (Record.InstructionAbort r) = false
uses_pc (Record.DataAbort r) = r.isv && eqb r.srt 15
