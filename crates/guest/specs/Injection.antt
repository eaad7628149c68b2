-- The table of injections (01, 'Guest state and the five injections'), and an injection's correction in a state (02, C-22).
use Rattle.std.specs.Prelude.{ℕ, Bool, true, false}
use Rattle.status.specs.declared.Mode.{Mode}
use Rattle.status.specs.declared.Mode.TheVariants.{Supervisor, Abort, Undefined}
use Rattle.signed.specs.declared.Signed.{Signed}
use Rattle.signed.specs.declared.Signed.TheVariants.{Plus, Minus}
use Rattle.status.specs.Entry.{t32}
use Rattle.exception.specs.declared.state.Guest.{Guest}
use Rattle.exception.specs.declared.entry.Row.{Row}
use Rattle.exception.specs.Entry.{correction_in}
use Rattle.guest.specs.declared.injection.Injection.{Injection}
use Rattle.guest.specs.declared.injection.Injection.TheVariants.{UndefinedAt, UndefinedAfter, SupervisorCall, PrefetchAbort}
use Rattle.guest.specs.declared.injection.Injection.TheVariants.{DataAbort}

-- the mode, the vector, the link register, whether A is set, and the correction to PC in A32 and in T32; F is kept
abbrev row : Mode → ℕ → ℕ → Bool → Signed → Signed → Row
row mode vector link a a32 t32 = record { mode = mode; vector = vector; link = link; a = a; f = false; a32 = a32; t32 = t32 }

abbrev pub injection_row : Injection → Row
injection_row UndefinedAt = row Undefined 0x04 22 false (Plus 4) (Plus 2)
injection_row UndefinedAfter = row Undefined 0x04 22 false (Plus 0) (Minus 2)
injection_row SupervisorCall = row Supervisor 0x08 18 false (Plus 0) (Plus 0)
injection_row (PrefetchAbort f) = row Abort 0x0C 20 true (Plus 4) (Plus 4)
injection_row (DataAbort a) = row Abort 0x10 20 true (Plus 8) (Plus 8)

-- "that injection's correction": its row's for the instruction set of the state that it is taken in
abbrev pub correction_of : Guest → Injection → Signed
correction_of s i = correction_in (injection_row i) (t32 s.status)
