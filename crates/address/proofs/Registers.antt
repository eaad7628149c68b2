-- Laws of the address registers: a register that doesn't count has no influence.
-- Assumes nothing.
use mathlib.Core.Path.{◌≡◌, refl, sym, ap}
use mathlib.Core.Bool.{Bool, true, false, cond, true≢false}
use Prim.Native.Nat.{ℕ, ◌+◌}
use Rattle.std.specs.Prelude.{Option, Some, None}
use borrow.Author.Tests.{eqb-true, not-false}
use lib.Dec.{eqb}
use Rattle.bits.specs.Field.{field_of}
use Rattle.bits.proofs.Booleans.{and_left}
use Rattle.record.specs.declared.kinds.Addresses.{Addresses}
use Rattle.address.specs.Known.{virtual_known, intermediate_known, far_counts, hpfar_counts}
use Rattle.address.specs.Page.{page_address}
use Rattle.address.specs.Shown.{virtual_of, intermediate_of}
use Rattle.registers.specs.declared.Far.{Far}
use Rattle.registers.specs.declared.Hpfar.{Hpfar}
use Rattle.address.specs.declared.IntermediateAddress.{IntermediateAddress}

-- an abort whose virtual address isn't known has no intermediate one
no_virtual : (fnv s1ptw : Bool) (code : ℕ) → virtual_known fnv code ≡ false → intermediate_known s1ptw code ≡ false
no_virtual fnv s1ptw code h = ap (intermediate_known s1ptw) (eqb-true code 0x10 (and_left (eqb code 0x10) fnv (not-false _ h)))

pub unknown_intermediate : (a : Option Addresses) → far_counts a ≡ false → hpfar_counts a ≡ false
unknown_intermediate None h = refl
unknown_intermediate (Some Addresses.Virtual) h = absurd (true≢false h)
unknown_intermediate (Some (Addresses.Abort fnv s1ptw code)) h = no_virtual fnv s1ptw code h

-- no intermediate address where HPFAR doesn't count
pub intermediate_hidden : (a : Option Addresses) (far : Far) (hpfar : Hpfar) → hpfar_counts a ≡ false
    → intermediate_of a far hpfar ≡ None
intermediate_hidden None far hpfar h = refl
intermediate_hidden (Some Addresses.Virtual) far hpfar h = refl
intermediate_hidden (Some (Addresses.Abort fnv s1ptw code)) far hpfar h =
    ap
    (λ (b : Bool). cond b
    (cond s1ptw (Some (IntermediateAddress.Page (page_address hpfar)))
    (Some (IntermediateAddress.Byte (page_address hpfar + field_of far.0 11 0))))
    None)
    h

-- S1PTW of an abort
abbrev pub walked : Option Addresses → Bool
walked None = false
walked (Some Addresses.Virtual) = false
walked (Some (Addresses.Abort fnv s1ptw code)) = s1ptw

-- where HPFAR counts, the page alone with S1PTW 1, and with FAR bits 11:0 otherwise
pub intermediate_shown : (a : Option Addresses) (far : Far) (hpfar : Hpfar) → hpfar_counts a ≡ true
    → intermediate_of a far hpfar
    ≡ cond (walked a) (Some (IntermediateAddress.Page (page_address hpfar)))
    (Some (IntermediateAddress.Byte (page_address hpfar + field_of far.0 11 0)))
intermediate_shown None far hpfar h = absurd (true≢false (sym h))
intermediate_shown (Some Addresses.Virtual) far hpfar h = absurd (true≢false (sym h))
intermediate_shown (Some (Addresses.Abort fnv s1ptw code)) far hpfar h =
    ap
    (λ (b : Bool). cond b
    (cond s1ptw (Some (IntermediateAddress.Page (page_address hpfar)))
    (Some (IntermediateAddress.Byte (page_address hpfar + field_of far.0 11 0))))
    None)
    h

-- FAR is the virtual address exactly where it counts: by definition of `virtual_of`
pub virtual_shown : (a : Option Addresses) (far : Far) → far_counts a ≡ true → virtual_of a far ≡ Some far.0
virtual_shown a far h = ap (λ (b : Bool). cond b (Some far.0) None) h

pub virtual_hidden : (a : Option Addresses) (far : Far) → far_counts a ≡ false → virtual_of a far ≡ None
virtual_hidden a far h = ap (λ (b : Bool). cond b (Some far.0) None) h
