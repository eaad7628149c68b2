-- Exception entry (01, 'Guest state and the five injections'; 003; 02, C-15 and C-19): the whole state that the handler finds.
use Rattle.std.specs.Prelude.{ℕ, ◌+◌, ◌%◌, ◌^◌, Bool, cond}
use Rattle.signed.specs.declared.Signed.{Signed}
use Rattle.signed.specs.Signed.{signed, sum_of}
use Rattle.status.specs.declared.Mode.{Mode}
use Rattle.status.specs.declared.Mode.TheVariants.{Supervisor, Abort, Undefined, Fiq, Irq}
use Rattle.status.specs.Entry.{t32, entry_status}
use Rattle.exception.specs.declared.state.Saved.{Saved}
use Rattle.exception.specs.declared.state.FaultRegisters.{FaultRegisters}
use Rattle.exception.specs.declared.state.Guest.{Guest}
use Rattle.exception.specs.declared.entry.Row.{Row}
use Rattle.exception.specs.State.{with_register, changed}
use Rattle.exception.specs.Vector.{vector_base}

-- the correction, by whether the guest was in T32 state
abbrev pub correction_in : Row → Bool → Signed
correction_in row t = cond t row.t32 row.a32

-- the link: the old PC plus the correction of the old T bit, modulo 2^32
abbrev pub link_from : Guest → Row → ℕ
link_from s row = sum_of s.pc (signed (correction_in row (t32 s.status)))

-- the mode's saved status is the given word; the others stay
abbrev pub saved_in : Mode → Saved → ℕ → Saved
saved_in Supervisor s w = record { fiq = s.fiq; irq = s.irq; svc = w; abt = s.abt; und = s.und }
saved_in Abort s w = record { fiq = s.fiq; irq = s.irq; svc = s.svc; abt = w; und = s.und }
saved_in Undefined s w = record { fiq = s.fiq; irq = s.irq; svc = s.svc; abt = s.abt; und = w }
saved_in Fiq s w = record { fiq = w; irq = s.irq; svc = s.svc; abt = s.abt; und = s.und }
saved_in Irq s w = record { fiq = s.fiq; irq = w; svc = s.svc; abt = s.abt; und = s.und }

-- the new state, given its status word: registers, PC, saved status words and fault registers. PC doesn't wrap where VBAR is aligned
-- (`vector_exact`, proofs/Vectors.antt).
abbrev pub entered_with : ℕ → Guest → Row → FaultRegisters → Guest
entered_with status s row faults =
    changed s
    (with_register s.regs row.link (link_from s row))
    ((vector_base s.sctlr s.vbar + row.vector) % 2 ^ 32)
    status
    (saved_in row.mode s.saved s.status)
    faults

unfoldable pub entered : Guest → Row → FaultRegisters → Guest
entered s row faults = entered_with (entry_status s.marks row.mode row.a row.f s.status s.sctlr) s row faults
