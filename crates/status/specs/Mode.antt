-- Modes (01, 'Guest state and the five injections'; 02, C-19).
use Rattle.std.specs.Prelude.{ℕ, Bool, ◌||◌, eqb}
use Rattle.status.specs.declared.Mode.{Mode}
use Rattle.status.specs.declared.Mode.TheVariants.{Supervisor, Abort, Undefined, Fiq, Irq}

-- the modes accepted: User, FIQ, IRQ, Supervisor, Abort, Undefined, System
unfoldable pub is_mode : ℕ → Bool
is_mode m = eqb m 0x10 || eqb m 0x11 || eqb m 0x12 || eqb m 0x13 || eqb m 0x17 || eqb m 0x1B || eqb m 0x1F

-- the modes that an exception enters
abbrev pub mode_number : Mode → ℕ
mode_number Supervisor = 0x13
mode_number Abort = 0x17
mode_number Undefined = 0x1B
mode_number Fiq = 0x11
mode_number Irq = 0x12
