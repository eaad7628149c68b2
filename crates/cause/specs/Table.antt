-- Tests and lists by which the laws compare the codes with the tables that stand elsewhere (proofs/Codes.antt).
use Rattle.std.specs.Prelude.{ℕ, ◌≡◌, Bool, true, false, not, List, [], ◌∷◌, eqb, Some}
use Rattle.edition.specs.Mask.{mask_of}
use Rattle.fault.specs.declared.Fault.{Fault}
use Rattle.fault.specs.Fault.{fault_row, code_in}
use Rattle.fault_code.specs.Code.{data_code}
use Rattle.cause.specs.declared.kind.Kind.{Kind}
use Rattle.cause.specs.Kind.{cause_at}
use Rattle.cause.specs.Pass.{passed_on}

abbrev pub is_mmu : Kind → Bool
is_mmu Kind.External = false
is_mmu Kind.Translation = true
is_mmu Kind.AccessFlag = true
is_mmu Kind.Permission = true
is_mmu Kind.Alignment = false
is_mmu Kind.AddressSize = true
is_mmu Kind.Parity = false
is_mmu Kind.TlbConflict = false
is_mmu Kind.Update = false
is_mmu Kind.Lockdown = false
is_mmu Kind.Exclusive = false

abbrev pub is_exclusive : Kind → Bool
is_exclusive Kind.External = false
is_exclusive Kind.Translation = false
is_exclusive Kind.AccessFlag = false
is_exclusive Kind.Permission = false
is_exclusive Kind.Alignment = false
is_exclusive Kind.AddressSize = false
is_exclusive Kind.Parity = false
is_exclusive Kind.TlbConflict = false
is_exclusive Kind.Update = false
is_exclusive Kind.Lockdown = false
is_exclusive Kind.Exclusive = true

-- some edition has the code
abbrev pub is_had : ℕ → Bool
is_had code = not (eqb (mask_of (λ e. data_code e code)) 0)

-- every fault that an injection can write
abbrev pub injected : List Fault
injected =
    Fault.External
    ∷ Fault.Translation 1
    ∷ Fault.Translation 2
    ∷ Fault.Translation 3
    ∷ Fault.AccessFlag 1
    ∷ Fault.AccessFlag 2
    ∷ Fault.AccessFlag 3
    ∷ Fault.Permission 1
    ∷ Fault.Permission 2
    ∷ Fault.Permission 3
    ∷ Fault.Alignment
    ∷ []

abbrev pub AllPass : List Fault → Type 0
AllPass [] = Unit {0}
AllPass (f ∷ fs) = (passed_on (cause_at false (code_in (fault_row f).long)) ≡ Some f) × AllPass fs
