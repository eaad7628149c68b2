-- A coprocessor read or write that is finished: MCR, MRC and VMRS of one register, MCRR and MRRC of two. A read puts the value into Rt, or
-- the two into Rt and Rt2, and a write hands out what they hold; then the state steps past the instruction. Rt and Rt2 are the state's own
-- numbers. Where the instruction names register 15 they are 31, which holds nothing: a read of one register then goes to the flags, and
-- every other form is UNPREDICTABLE.
use Rattle.std.specs.Prelude.{ℕ, Option, Some, None, is_some, Ok, Err, Bool, cond, List, [], ◌∷◌}
use Rattle.bits.specs.Decide.{Test, needs, decide}
use Rattle.record.specs.declared.kinds.Mcr.{Mcr}
use Rattle.record.specs.declared.kinds.Mcrr.{Mcrr}
use Rattle.record.specs.declared.kinds.Record.{Record}
use Rattle.status.specs.Sound.{sound}
use Rattle.exception.specs.declared.state.Guest.{Guest}
use Rattle.exception.specs.State.{register_in, with_register, changed}
use Rattle.step.specs.Condition.{passes}
use Rattle.step.specs.Step.{stepped}
use Rattle.step.specs.Over.{had}
use Rattle.step.specs.declared.refusal.OnwardRefusal.{OnwardRefusal}
use Rattle.step.specs.declared.refusal.OnwardRefusal.TheVariants.{NoEdition, UnsoundStatus, NotThis}
use Rattle.coprocessor.specs.declared.answer.Moved.TheVariants.{Read, Written, WrittenTwo}
use Rattle.coprocessor.specs.declared.transfer.Transfer.{Transfer}
use Rattle.coprocessor.specs.declared.transfer.Transfer.TheVariants.{One, Two}
use Rattle.step.specs.declared.over.Onward.{Onward}
use Rattle.coprocessor.specs.declared.answer.Moved.{Moved}
use Rattle.coprocessor.specs.Flags.{status_after}

-- ---- the tests

-- classes 0x03, 0x05 and 0x08 have one register, 0x04 and 0x0C two
abbrev pub transfer_of : Record → Option Transfer
transfer_of (Record.Plain r) = None
transfer_of (Record.Wfx r) = None
transfer_of (Record.Mcr r) = Some (One r)
transfer_of (Record.Mcrr r) = Some (Two r)
transfer_of (Record.Ldc r) = None
transfer_of (Record.Simd r) = None
transfer_of (Record.Call r) = None
transfer_of (Record.Smc r) = None
transfer_of (Record.InstructionAbort r) = None
transfer_of (Record.DataAbort r) = None
transfer_of (Record.Debug r) = None
transfer_of (Record.Step r) = None
transfer_of (Record.Watchpoint r) = None
transfer_of (Record.SError r) = None
transfer_of (Record.System r) = None

-- an instruction whose condition fails transfers nothing: it is stepped over (crate step)
abbrev pub counted_of : ℕ → Record → Option Transfer
counted_of w r = cond (passes w r) (transfer_of r) None

abbrev pub is_transfer : Option Transfer → Bool
is_transfer t = is_some t

-- the tests in their order, each with its number; 0 comes where none fails
abbrev pub transfer_numbers : Guest → Record → List (Test ℕ)
transfer_numbers s r =
    needs (had r) 5
    ∷ needs (sound s.marks s.status) 9
    ∷ needs (is_transfer (counted_of s.status r)) 18
    ∷ []

-- ---- the transfer

-- the state with another status word
abbrev pub with_status : Guest → ℕ → Guest
with_status s w = changed s s.regs s.pc w s.saved s.faults

abbrev pub read_one : Guest → Mcr → ℕ → Onward Moved
read_one s r value =
    record {
      answer = Ok Read;
      state = stepped (with_status s (status_after s.status r.rt value)) (with_register s.regs r.rt value) r.il;
    }

abbrev pub wrote_one : Guest → Mcr → Onward Moved
wrote_one s r = record { answer = Ok (Written (register_in s.regs r.rt)); state = stepped s s.regs r.il }

abbrev pub read_two : Guest → Mcrr → ℕ → ℕ → Onward Moved
read_two s r first second =
    record { answer = Ok Read; state = stepped s (with_register (with_register s.regs r.rt first) r.rt2 second) r.il }

abbrev pub wrote_two : Guest → Mcrr → Onward Moved
wrote_two s r =
    record {
      answer = Ok (WrittenTwo (register_in s.regs r.rt) (register_in s.regs r.rt2));
      state = stepped s s.regs r.il;
    }

-- direction 1 is a read
unfoldable pub one : Guest → Mcr → ℕ → Onward Moved
one s r value = cond r.direction (read_one s r value) (wrote_one s r)

unfoldable pub two : Guest → Mcrr → ℕ → ℕ → Onward Moved
two s r first second = cond r.direction (read_two s r first second) (wrote_two s r)

-- ---- the call

-- a refusal gives back the state as it came
abbrev pub refusing : OnwardRefusal → Guest → Onward Moved
refusing refusal s = record { answer = Err refusal; state = s }

abbrev pub by_transfer : Guest → Option Transfer → ℕ → ℕ → Onward Moved
by_transfer s (Some (One r)) first second = one s r first
by_transfer s (Some (Two r)) first second = two s r first second
by_transfer s None first second = refusing NotThis s

unfoldable pub finished : Guest → Record → ℕ → ℕ → Onward Moved
finished s r first second =
    decide
    (needs (had r) (refusing NoEdition s)
    ∷ needs (sound s.marks s.status) (refusing UnsoundStatus s)
    ∷ [])
    (by_transfer s (counted_of s.status r) first second)
