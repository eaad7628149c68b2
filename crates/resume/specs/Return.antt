-- The return (02, C-22): "status word from the current mode's saved word, PC from the link register less a stated signed correction, modulo
-- 2^32".
use Rattle.std.specs.Prelude.{ℕ, Bool, not, ◌&&◌, cond, List, [], ◌∷◌, eqb, Result, Ok, Err}
use Rattle.bits.specs.Decide.{Test, needs, decide, relabel}
use Rattle.bits.specs.Field.{field_of}
use Rattle.signed.specs.declared.Signed.{Signed}
use Rattle.signed.specs.Signed.{signed, difference_of}
use Rattle.status.specs.Register.{by_mode, link_register}
use Rattle.status.specs.Sound.{sound}
use Rattle.exception.specs.declared.state.Saved.{Saved}
use Rattle.exception.specs.declared.state.Guest.{Guest}
use Rattle.exception.specs.State.{register_in, changed}
use Rattle.resume.specs.declared.ReturnRefusal.{ReturnRefusal}
use Rattle.resume.specs.declared.ReturnRefusal.TheVariants.{UnsoundStatus, NoSavedStatus, UnsoundSaved}
use Rattle.resume.specs.declared.Resumed.{Resumed}
use Rattle.resume.specs.Answer.{answer_number}

-- the current mode: M, bits 4:0 of the status word
abbrev pub mode_of : Guest → ℕ
mode_of s = field_of s.status 4 0

-- "User and System mode have no saved word"
abbrev pub banked : ℕ → Bool
banked mode = not (eqb mode 0x10) && not (eqb mode 0x1F)

-- a mode's saved status word
abbrev pub saved_of : ℕ → Saved → ℕ
saved_of mode s = by_mode mode s.fiq s.irq s.svc s.abt s.und 0

-- the state with this status word, and PC at the mode's link register less the correction; nothing else changes
unfoldable pub restored : Guest → ℕ → ℕ → Signed → Guest
restored s mode status c =
    changed s s.regs (difference_of (register_in s.regs (link_register mode)) (signed c)) status s.saved s.faults

-- the state after a return that is taken: by the current mode, and by its saved word
abbrev pub back : Guest → Signed → Guest
back s c = restored s (mode_of s) (saved_of (mode_of s) s.saved) c

-- the tests in their order: an unsound state, a mode without a saved word, a saved word that is no sound status word under the state's
-- marks
abbrev pub return_tests : Guest → List (Test (Result Unit ReturnRefusal))
return_tests s =
    needs (sound s.marks s.status) (Err UnsoundStatus)
    ∷ needs (banked (mode_of s)) (Err NoSavedStatus)
    ∷ needs (sound s.marks (saved_of (mode_of s) s.saved)) (Err UnsoundSaved)
    ∷ []

-- the same tests, each with its number
abbrev pub return_numbers : Guest → List (Test ℕ)
return_numbers s = relabel answer_number (return_tests s)

-- the first test that fails gives the answer
unfoldable pub return_answer : Guest → Result Unit ReturnRefusal
return_answer s = decide (return_tests s) (Ok tt)

-- an answer 0 comes with the new state, and a refusal "with nothing changed"
abbrev pub resulting : Result Unit ReturnRefusal → Guest → Guest → Guest
resulting a s after = cond (eqb (answer_number a) 0) after s

unfoldable pub returned : Guest → Signed → Resumed
returned s c = record { answer = return_answer s; state = resulting (return_answer s) s (back s c) }
