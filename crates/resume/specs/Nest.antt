-- A nest (02, C-22): "a whole nest of injections, each returned in turn, as long as no two enter the same mode". Over rows, so that
-- injections and deliveries are one law.
use Rattle.std.specs.Prelude.{◌≡◌, Bool, true, not, ◌&&◌, List, [], ◌∷◌, ◌++◌, ℕ, ◌^◌, ◌<◌, length, Ok}
use Rattle.bits.specs.Among.{among}
use Rattle.signed.specs.declared.Signed.{Signed}
use Rattle.status.specs.declared.Mode.{Mode}
use Rattle.status.specs.Mode.{mode_number}
use Rattle.status.specs.Entry.{t32}
use Rattle.exception.specs.declared.state.FaultRegisters.{FaultRegisters}
use Rattle.exception.specs.declared.state.Guest.{Guest}
use Rattle.exception.specs.declared.entry.Row.{Row}
use Rattle.exception.specs.State.{with_register, changed}
use Rattle.exception.specs.Entry.{correction_in, link_from, saved_in, entered}
use Rattle.resume.specs.Return.{returned}
use Rattle.resume.specs.Same.{EqualBut, fault_words, link_place, each}

-- an exception: its row, the fault registers that it leaves in a state, and which of them it writes
pub record Exception : Type 0 where
  pub row : Row
  pub leaves : Guest → FaultRegisters
  pub writes : List ℕ

-- its row has its mode's own link register, and it changes no fault register but those that it writes
pub record Proper (x : Exception) : Type 0 where
  pub link : x.row.link ≡ link_place x.row.mode
  pub faults : (s : Guest) → EqualBut x.writes (fault_words (x.leaves s)) (fault_words s.faults)

abbrev pub AllProper : List Exception → Type 0
AllProper [] = Unit {0}
AllProper (x ∷ xs) = Proper x × AllProper xs

-- taken in a state, and the correction that it had there
abbrev pub taken : Guest → Exception → Guest
taken s x = entered s x.row (x.leaves s)

abbrev pub correction_at : Guest → Exception → Signed
correction_at s x = correction_in x.row (t32 s.status)

-- each taken in the state that the last one left
abbrev pub last_left : Guest → List Exception → Guest
last_left s [] = s
last_left s (x ∷ xs) = last_left (taken s x) xs

-- and then returned in turn, the last first, each with its correction
abbrev pub nested : Guest → List Exception → Guest
nested s [] = s
nested s (x ∷ xs) = (returned (nested (taken s x) xs) (correction_at s x)).state

-- each return answers 0
abbrev pub AllReturn : Guest → List Exception → Type 0
AllReturn s [] = Unit {0}
AllReturn s (x ∷ xs) = AllReturn (taken s x) xs × ((returned (nested (taken s x) xs) (correction_at s x)).answer ≡ Ok tt)

-- the modes entered, and the fault registers written
abbrev pub modes_of : List Exception → List Mode
modes_of [] = []
modes_of (x ∷ xs) = x.row.mode ∷ modes_of xs

abbrev pub written_by : List Exception → List ℕ
written_by [] = []
written_by (x ∷ xs) = x.writes ++ written_by xs

-- no two enter the same mode
abbrev pub distinct_modes : List Mode → Bool
distinct_modes [] = true
distinct_modes (m ∷ ms) = not (among (each mode_number ms) (mode_number m)) && distinct_modes ms

-- one exception undone: the first state, but for the link register and the saved status of the mode entered and the fault registers, each
-- as the exception left it
abbrev pub undone : Guest → Row → FaultRegisters → Guest
undone s row faults =
    changed s (with_register s.regs row.link (link_from s row)) s.pc s.status (saved_in row.mode s.saved s.status) faults

-- what the types of the code give: a PC of 32 bits, and 31 registers
pub record Typed (s : Guest) : Type 0 where
  pub pc : s.pc < 2 ^ 32
  pub size : length s.regs ≡ 31
