-- A read to the flags (the manual's MRC with Rt 15, APSR_nzcv). A record has the AArch64 view of a register number, and of 15 that is 31
-- (001, ISS).
use Rattle.std.specs.Prelude.{ℕ, ◌+◌, cond, eqb}
use Rattle.status.specs.Base.{kept}

-- a status word with N, Z, C and V from a value's bits 31:28
unfoldable pub with_flags : ℕ → ℕ → ℕ
with_flags w value = kept value 31 28 + kept w 27 0

-- only register 31 stands for the flags
abbrev pub status_after : ℕ → ℕ → ℕ → ℕ
status_after w rt value = cond (eqb rt 31) (with_flags w value) w
