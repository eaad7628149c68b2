-- States that are equal but in some places (02, C-22): "the first state again, but for the saved status and link register of the mode
-- entered and the fault registers written".
use Rattle.std.specs.Prelude.{◌≡◌, false, List, [], ◌∷◌, ℕ, length, get_or}
use Rattle.bits.specs.Among.{among}
use Rattle.status.specs.declared.Mode.{Mode}
use Rattle.status.specs.Mode.{mode_number}
use Rattle.status.specs.Register.{by_mode, link_register}
use Rattle.exception.specs.declared.state.Saved.{Saved}
use Rattle.exception.specs.declared.state.FaultRegisters.{FaultRegisters}
use Rattle.exception.specs.declared.state.Guest.{Guest}

-- two lists of words that are equal but at these places
pub record EqualBut (places a b : List ℕ) : Type 0 where
  pub sizes : length a ≡ length b
  pub words : (n : ℕ) → among places n ≡ false → get_or a n 0 ≡ get_or b n 0

-- the saved status words and the fault registers as lists, in document 01's order
abbrev pub saved_words : Saved → List ℕ
saved_words s = s.fiq ∷ s.irq ∷ s.svc ∷ s.abt ∷ s.und ∷ []

abbrev pub fault_words : FaultRegisters → List ℕ
fault_words f = f.dfsr ∷ f.ifsr ∷ f.dfar ∷ f.ifar ∷ []

-- where a mode's link stands among the registers, and its saved word among the saved words
abbrev pub link_place : Mode → ℕ
link_place m = link_register (mode_number m)

abbrev pub saved_place : Mode → ℕ
saved_place m = by_mode (mode_number m) 0 1 2 3 4 5

abbrev pub each : (Mode → ℕ) → List Mode → List ℕ
each f [] = []
each f (m ∷ ms) = f m ∷ each f ms

-- equal but for these modes' saved words and links, and these fault registers, by their places: DFSR 0, IFSR 1, DFAR 2, IFAR 3
pub record SameBut (modes : List Mode) (written : List ℕ) (s t : Guest) : Type 0 where
  pub regs : EqualBut (each link_place modes) s.regs t.regs
  pub pc : s.pc ≡ t.pc
  pub status : s.status ≡ t.status
  pub saved : EqualBut (each saved_place modes) (saved_words s.saved) (saved_words t.saved)
  pub faults : EqualBut written (fault_words s.faults) (fault_words t.faults)
  pub sctlr : s.sctlr ≡ t.sctlr
  pub vbar : s.vbar ≡ t.vbar
  pub ttbcr : s.ttbcr ≡ t.ttbcr
  pub marks : s.marks ≡ t.marks

-- equal but for the status word and PC
pub record OnlyMoved (s t : Guest) : Type 0 where
  pub regs : s.regs ≡ t.regs
  pub saved : s.saved ≡ t.saved
  pub faults : s.faults ≡ t.faults
  pub sctlr : s.sctlr ≡ t.sctlr
  pub vbar : s.vbar ≡ t.vbar
  pub ttbcr : s.ttbcr ≡ t.ttbcr
  pub marks : s.marks ≡ t.marks
