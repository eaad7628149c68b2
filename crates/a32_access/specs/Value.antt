-- What a register of the guest reads as (02, C-18): register 15 is PC plus 8; every other stands in the state where the mode's mapping says
-- (status, specs/Register.antt).
use Rattle.std.specs.Prelude.{ℕ, ◌+◌, ◌*◌, ◌/◌, ◌%◌, ◌^◌, cond, List, Option, Some, None, ◌==◌, slice_index}
use Rattle.status.specs.Register.{held_in}

abbrev pub held_value : List ℕ → Option ℕ → ℕ
held_value regs (Some n) = slice_index regs n
held_value regs None = 0

-- register 15
abbrev pub program_counter : ℕ → ℕ
program_counter pc = (pc + 8) % 2 ^ 32

unfoldable pub value_of : List ℕ → ℕ → ℕ → ℕ → ℕ
value_of regs pc mode n = cond (n == 15) (program_counter pc) (held_value regs (held_in mode n))

-- a literal's base: register 15, down to a multiple of 4
unfoldable pub literal_base : ℕ → ℕ
literal_base pc = program_counter pc / 4 * 4
