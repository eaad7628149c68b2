-- The hypervisor's 32-bit saved word as a status word (02, C-15), a status word as a saved word, and what the two calls promise.
use Rattle.std.specs.Prelude.{cond, List, [], ◌∷◌, ℕ, ◌+◌, ◌*◌, ◌^◌, Option, Some, None}
use Rattle.bits.specs.Decide.{Test, needs}
use Rattle.bits.specs.Field.{field_of}
use Rattle.promise.specs.Promise.{Answers}
use Rattle.status.specs.declared.Marks.{Marks}
use Rattle.status.specs.Base.{kept}
use Rattle.status.specs.Sound.{sound}

-- DIT moves from bit 24 to bit 21, where SS was, which is dropped; bit 24 is then 0
unfoldable pub spsr_status : ℕ → ℕ
spsr_status w =
    kept w 31 25
    + kept w 23 22
    + field_of w 24 24 * 2 ^ 21
    + kept w 20 0

-- 9 is tested on the word that was made
unfoldable pub from_spsr : Marks → ℕ → Option ℕ
from_spsr marks w = cond (sound marks (spsr_status w)) (Some (spsr_status w)) None

abbrev pub spsr_numbers : Marks → ℕ → List (Test ℕ)
spsr_numbers marks w = needs (sound marks (spsr_status w)) 9 ∷ []

-- the number of each answer, here and back
abbrev pub spsr_number : Option ℕ → ℕ
spsr_number (Some w) = 0
spsr_number None = 9

abbrev pub SpsrPromise : Marks → ℕ → Option ℕ → Type 0
SpsrPromise marks w = Answers spsr_number (from_spsr marks w) (spsr_numbers marks w)

-- ---- back

-- DIT moves from bit 21 to bit 24; bit 21, SS, is then 0
unfoldable pub status_spsr : ℕ → ℕ
status_spsr w =
    kept w 31 25
    + field_of w 21 21 * 2 ^ 24
    + kept w 23 22
    + kept w 20 0

-- a saved word with SS dropped
abbrev pub without_ss : ℕ → ℕ
without_ss w = kept w 31 22 + kept w 20 0

-- 9 is tested on the word that is handed in
unfoldable pub to_spsr : Marks → ℕ → Option ℕ
to_spsr marks w = cond (sound marks w) (Some (status_spsr w)) None

abbrev pub to_spsr_numbers : Marks → ℕ → List (Test ℕ)
to_spsr_numbers marks w = needs (sound marks w) 9 ∷ []

abbrev pub ToSpsrPromise : Marks → ℕ → Option ℕ → Type 0
ToSpsrPromise marks w = Answers spsr_number (to_spsr marks w) (to_spsr_numbers marks w)
