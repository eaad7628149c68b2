-- The register of a mode (requests C-11 and C-18 of document 02; the manual's mapping of AArch32 general-purpose registers to AArch64
-- ones): which of the 31 registers in the AArch64 numbering holds R0 to R14 of a mode.
use Rattle.std.specs.Prelude.{ℕ, ◌+◌, cond, ◌&&◌, eqb, leb, Option, Some, None}
use Rattle.status.specs.Mode.{is_mode}

-- what FIQ, IRQ, Supervisor, Abort and Undefined have of their own; User and System share the last
abbrev pub by_mode : ℕ → ℕ → ℕ → ℕ → ℕ → ℕ → ℕ → ℕ
by_mode mode fiq irq svc abt und usr =
    cond (eqb mode 0x11) fiq (cond (eqb mode 0x12) irq (cond (eqb mode 0x13) svc (cond (eqb mode 0x17) abt (cond (eqb mode 0x1B) und usr))))

-- R13, the stack pointer, and R14, the link register
abbrev pub stack_pointer : ℕ → ℕ
stack_pointer mode = by_mode mode 29 17 19 21 23 13

abbrev pub link_register : ℕ → ℕ
link_register mode = by_mode mode 30 16 18 20 22 14

-- R0 to R12 have their own numbers, but R8 to R12 of FIQ are 24 to 28
unfoldable pub register_number : ℕ → ℕ → ℕ
register_number mode n =
    cond (eqb n 13) (stack_pointer mode)
    (cond (eqb n 14) (link_register mode) (cond (eqb mode 0x11 && leb 8 n && leb n 12) (n + 16) n))

-- a mode that isn't accepted holds no register, and no mode holds a register above R14: R15 is the PC
abbrev pub held_in : ℕ → ℕ → Option ℕ
held_in mode n = cond (is_mode mode && leb n 14) (Some (register_number mode n)) None
