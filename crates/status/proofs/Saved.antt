-- Laws of the hypervisor's saved word as a status word.
use Rattle.std.specs.Prelude.{Option, Some, None}
use mathlib.Core.Path.{◌≡◌, refl}
use mathlib.Core.List.{[], ◌∷◌}
use mathlib.Core.Logic.{◌↔◌}
use Prim.Native.Nat.{ℕ, ◌+◌, ◌*◌, ◌^◌, ◌<◌}
use native.Mathlib.Omega.{arith}
use Rattle.bits.specs.Decide.{needs, FirstFails}
use Rattle.bits.specs.Field.{field_of}
use Rattle.promise.proofs.Promises.{first_exactly, by_tests}
use Rattle.status.specs.declared.Marks.{Marks}
use Rattle.status.specs.Sound.{sound}
use Rattle.status.specs.Spsr.{spsr_status, from_spsr, spsr_numbers, spsr_number, SpsrPromise}

-- what the call promises, by its equation alone
pub promised : (marks : Marks) (w : ℕ) {r : Option ℕ} → r ≡ from_spsr marks w → SpsrPromise marks w r
unfolding from_spsr
promised marks w = by_tests spsr_number (needs (sound marks (spsr_status w)) None ∷ []) (Some (spsr_status w)) refl refl

-- 9 exactly when the word that is made isn't sound
pub spsr_decided : (marks : Marks) (w k : ℕ) → (spsr_number (from_spsr marks w) ≡ k) ↔ FirstFails k (spsr_numbers marks w)
spsr_decided marks w = first_exactly (spsr_numbers marks w) tt (promised marks w refl)

-- the word that is made, field by field
pub record Moved (old new : ℕ) : Type 0 where
  pub low20_0 : field_of new 20 0 ≡ field_of old 20 0
  pub dit21 : field_of new 21 21 ≡ field_of old 24 24
  pub kept23_22 : field_of new 23 22 ≡ field_of old 23 22
  pub zero24 : field_of new 24 24 ≡ 0
  pub kept31_25 : field_of new 31 25 ≡ field_of old 31 25

-- a sum of the fields, each in its place and within its width: 31:25, 23:22, 21 and 20:0
module _ (h k d l : ℕ) (hh : h < 128) (hk : k < 4) (hd : d < 2) (hl : l < 2 ^ 21) where
  abbrev word : ℕ
  word = h * 2 ^ 25 + k * 2 ^ 22 + d * 2 ^ 21 + l * 2 ^ 0

  digits : (field_of word 20 0 ≡ l) × (field_of word 21 21 ≡ d) × (field_of word 23 22 ≡ k) × (field_of word 24 24 ≡ 0)
      × (field_of word 31 25 ≡ h)
  digits = (omega arith, omega arith, omega arith, omega arith, omega arith)

pub moved : (w : ℕ) → Moved w (spsr_status w)
unfolding spsr_status
moved w =
    let d = digits (field_of w 31 25) (field_of w 23 22) (field_of w 24 24) (field_of w 20 0) (omega arith) (omega arith) (omega arith)
    (omega arith) in
    record { low20_0 = d.0; dit21 = d.1; kept23_22 = d.2; zero24 = d.3; kept31_25 = d.4 }
