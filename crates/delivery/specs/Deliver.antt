-- What a delivery step asks of a guest's state and does to it (02, C-19).
use Rattle.std.specs.Prelude.{ℕ, List, [], ◌∷◌}
use Rattle.bits.specs.Decide.{Test, needs, decide}
use Rattle.bits.specs.Field.{bit_of}
use Rattle.status.specs.Sound.{sound}
use Rattle.fault.specs.Fault.{asynchronous_dfsr}
use Rattle.exception.specs.declared.state.FaultRegisters.{FaultRegisters}
use Rattle.exception.specs.declared.state.Guest.{Guest}
use Rattle.exception.specs.Vector.{aligned}
use Rattle.exception.specs.Entry.{entered}
use Rattle.pending.specs.declared.Kind.{Kind}
use Rattle.pending.specs.declared.Masks.{Masks}
use Rattle.pending.specs.Reading.{mask_in}
use Rattle.pending.specs.Step.{Delivery}
use Rattle.delivery.specs.Row.{delivery_row}

-- "A state refused 9 or 10, tested even if nothing waits"
abbrev pub delivery_numbers : Guest → List (Test ℕ)
delivery_numbers s = needs (sound s.marks s.status) 9 ∷ needs (aligned s.vbar) 10 ∷ []

-- the mask bits: A is bit 8, F bit 6 and I bit 7 of the status word
abbrev pub masks_of : ℕ → Masks
masks_of w = record { a = bit_of w 8; f = bit_of w 6; i = bit_of w 7 }

-- a virtual abort writes DFSR whole, with the domain 0 (02, C-21), and leaves DFAR
abbrev pub faults_after : Kind → FaultRegisters → ℕ → FaultRegisters
faults_after Kind.Abort old ttbcr = record { dfsr = asynchronous_dfsr 0 ttbcr; ifsr = old.ifsr; dfar = old.dfar; ifar = old.ifar }
faults_after Kind.Fiq old ttbcr = old
faults_after Kind.Irq old ttbcr = old

-- the state after a kind was delivered
abbrev pub delivered_in : Guest → Kind → Guest
delivered_in s k = entered s (delivery_row k) (faults_after k s.faults s.ttbcr)

-- a step's tests, masks and injection, as the plain queue asks for them
unfoldable pub guest_delivery : Delivery Guest
guest_delivery = record { refusal = λ s. decide (delivery_numbers s) 0; mask = λ s. mask_in (masks_of s.status); injected = delivered_in }
