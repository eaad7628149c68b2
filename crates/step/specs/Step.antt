-- The state past an instruction (02, C-17): PC moves by its length, modulo 2^32, IT advances, and nothing else changes but the registers
-- that are given.
use Rattle.std.specs.Prelude.{ℕ, ◌+◌, ◌%◌, ◌^◌, Bool, cond, List}
use Rattle.status.specs.It.{it_advanced}
use Rattle.exception.specs.declared.state.Guest.{Guest}
use Rattle.exception.specs.State.{changed}

-- IL: the instruction is 4 or 2 bytes long
abbrev pub bytes_of : Bool → ℕ
bytes_of il = cond il 4 2

unfoldable pub stepped : Guest → List ℕ → Bool → Guest
stepped s regs il = changed s regs ((s.pc + bytes_of il) % 2 ^ 32) (it_advanced s.status) s.saved s.faults
