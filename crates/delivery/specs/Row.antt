-- The table of deliveries (02, C-19): "FIQ: mode 0x11, vector 0x1C, register 30, +4, masks A, I, F. IRQ: 0x12, 0x18, register 16, +4, A and
-- I. Virtual abort: as a data abort"; and a delivery's correction in a state (C-22).
use Rattle.std.specs.Prelude.{ℕ, Bool, true, false}
use Rattle.signed.specs.declared.Signed.{Signed}
use Rattle.signed.specs.declared.Signed.TheVariants.{Plus}
use Rattle.status.specs.declared.Mode.{Mode}
use Rattle.status.specs.declared.Mode.TheVariants.{Abort, Fiq, Irq}
use Rattle.status.specs.Entry.{t32}
use Rattle.exception.specs.declared.state.Guest.{Guest}
use Rattle.exception.specs.declared.entry.Row.{Row}
use Rattle.exception.specs.Entry.{correction_in}
use Rattle.pending.specs.declared.Kind.{Kind}

-- the mode, the vector, the link register, whether F is set, and the correction to PC in either instruction set; A is set, and I is by
-- every entry
abbrev pub row : Mode → ℕ → ℕ → Bool → ℕ → Row
row mode vector link f correction =
    record { mode = mode; vector = vector; link = link; a = true; f = f; a32 = Plus correction; t32 = Plus correction }

abbrev pub delivery_row : Kind → Row
delivery_row Kind.Abort = row Abort 0x10 20 false 8
delivery_row Kind.Fiq = row Fiq 0x1C 30 true 4
delivery_row Kind.Irq = row Irq 0x18 16 false 4

-- the row's correction for the instruction set of the state that it is delivered in
abbrev pub correction_of : Guest → Kind → Signed
correction_of s k = correction_in (delivery_row k) (t32 s.status)
