-- The codes beside the tables that stand elsewhere: MMU faults (crate iss), the codes that editions have (crate fault_code), and the codes
-- by which injections tell their faults (crate fault).
-- Assumes nothing.
use mathlib.Core.Path.{◌≡◌, refl, subst}
use mathlib.Core.Bool.{Bool, true, false, not, ◌&&◌, ◌||◌}
use Prim.Native.Nat.{ℕ, ◌<◌}
use lib.Dec.{eqb}
use borrow.Author.Tests.{eqb-true}
use Rattle.std.specs.Prelude.{Option, Some, None}
use Rattle.bits.proofs.Every.{below}
use Rattle.edition.specs.Mask.{mask_of}
use Rattle.iss.specs.Rule.{mmu_fault}
use Rattle.fault.specs.declared.Fault.{Fault}
use Rattle.fault.specs.Fault.{fault_row, code_in, by_level}
use Rattle.cause.specs.Kind.{kind_of, level_of, cause_at}
use Rattle.cause.specs.Pass.{passed_on}
use Rattle.cause.specs.Table.{is_mmu, is_exclusive, is_had, injected, AllPass}

-- ---- MMU faults

-- an address size, translation, access flag or permission fault is what the rules call an MMU fault
pub mmu_fault_lem : (code : ℕ) → code < 64 → is_mmu (kind_of code) ≡ mmu_fault code
unfolding kind_of
mmu_fault_lem code h = below (λ c. is_mmu (kind_of c)) mmu_fault 64 tt code h

-- ---- the codes that editions have

-- the last kind is of no other code that an edition has
pub last_code : (code : ℕ) → code < 64 → (is_had code && is_exclusive (kind_of code)) ≡ eqb code 0x35
unfolding kind_of mask_of
last_code code h = below (λ c. is_had c && is_exclusive (kind_of c)) (λ c. eqb c 0x35) 64 tt code h

-- ---- what is passed on

-- a fault's STATUS is a code, where there is a fault
abbrev told : Option Fault → ℕ → Bool
told (Some f) code = eqb (code_in (fault_row f).long) code
told None code = true

told_fault : (code : ℕ) {p : Option Fault} {f : Fault} {b : Bool} → b ≡ true → p ≡ Some f → (not b || told p code) ≡ true
    → code_in (fault_row f).long ≡ code
told_fault code {p} {f} had e t =
    eqb-true (code_in (fault_row f).long) code
    (subst (λ (q : Option Fault). told q code ≡ true) e (subst (λ (b : Bool). (not b || told p code) ≡ true) had t))

-- THE GUEST IS TOLD what the chip told: in the long format the fault's STATUS is the trap's own code
pub same_code : (code : ℕ) → code < 64 → is_had code ≡ true → {f : Fault} → passed_on (cause_at false code) ≡ Some f
    → code_in (fault_row f).long ≡ code
unfolding kind_of level_of by_level mask_of
same_code code h had e =
    told_fault code had e (below (λ c. not (is_had c) || told (passed_on (cause_at false c)) c) (λ c. true) 64 tt code h)

-- EACH OF THEM is what the trap with its code is passed on as
pub every_fault : AllPass injected
unfolding kind_of level_of by_level
every_fault = (refl, (refl, (refl, (refl, (refl, (refl, (refl, (refl, (refl, (refl, (refl, tt)))))))))))

-- NOTHING that was on a stage 1 walk is passed on
pub walk_stays : (code : ℕ) → passed_on (cause_at true code) ≡ None
walk_stays code = refl
