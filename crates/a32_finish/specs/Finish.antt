-- A described load or store that is finished: the answer, the addresses and values for the device, and the whole state after it. What is
-- finished is what describing the word in the same state answers (crate a32), so that its tests are those.
use Rattle.std.specs.Prelude.{ℕ, min, cond, true, List, [], Option, Some, None, Result, Ok, Err}
use Rattle.bits.specs.Field.{field_of}
use Rattle.exception.specs.declared.state.Guest.{Guest}
use Rattle.step.specs.Step.{stepped}
use Rattle.data.specs.Data.{big_endian}
use Rattle.a32_access.specs.Transferred.{registers_of, padded}
use Rattle.a32_access.specs.declared.access.Access.{Access}
use Rattle.a32_transfer.specs.declared.landing.Landing.{Landing}
use Rattle.a32_transfer.specs.declared.shape.Shape.{Shape}
use Rattle.a32_transfer.specs.Shape.{shape_of}
use Rattle.a32_transfer.specs.Landing.{written_back, landed}
use Rattle.a32_transfer.specs.Giving.{firsts, address_at, given_at}
use Rattle.a32.specs.declared.instruction.InstructionRefusal.{InstructionRefusal}
use Rattle.a32.specs.Promise.{described_answer}
use Rattle.a32_finish.specs.declared.answer.Moved.TheVariants.{Loaded, Stored}
use Rattle.a32_finish.specs.declared.answer.Finished.{Finished}
use Rattle.a32_finish.specs.Branch.{branched}

-- M, bits 4:0 of the status word
abbrev pub mode_of : ℕ → ℕ
mode_of w = field_of w 4 0

-- ---- a load

-- past the instruction, which is 4 bytes long, or where a load of register 15 leads
abbrev pub gone_on : Guest → List ℕ → Option ℕ → Guest
gone_on s regs None = stepped s regs true
gone_on s regs (Some value) = branched (stepped s regs true) value

abbrev pub landing_in : Guest → Access → Shape → List ℕ → List ℕ → Landing
landing_in s a shape numbers values =
    landed (written_back s.regs s.pc (mode_of s.status) a) (mode_of s.status) (big_endian s.status) shape numbers values
    a.count

unfoldable pub loaded : Guest → Access → Shape → List ℕ → List ℕ → Guest
loaded s a shape numbers values = gone_on s (landing_in s a shape numbers values).regs (landing_in s a shape numbers values).branch

-- ---- a store

-- a store changes the base alone, where it is written back; what is stored was read before that
unfoldable pub stored : Guest → Access → Guest
stored s a = stepped s (written_back s.regs s.pc (mode_of s.status) a) true

-- the addresses, and what a store gives the device there, in transfer order, 0 after the last; an access counts sixteen registers at most
abbrev pub addresses_of : Access → List ℕ
addresses_of a = padded 16 (firsts (address_at a.address) (min a.count 16))

abbrev pub given_in : Guest → Access → Shape → List ℕ → List ℕ
given_in s a shape numbers =
    padded 16 (firsts (given_at s.regs s.pc (mode_of s.status) (big_endian s.status) shape.sas numbers) (min a.count 16))

-- ---- the call

abbrev pub to_load : Guest → Access → Shape → List ℕ → List ℕ → Finished
to_load s a shape numbers values =
    record {
      outcome = record { answer = Ok (Loaded a); addresses = addresses_of a; values = padded 16 [] };
      state = loaded s a shape numbers values;
    }

abbrev pub to_store : Guest → Access → Shape → List ℕ → Finished
to_store s a shape numbers =
    record {
      outcome = record { answer = Ok (Stored a); addresses = addresses_of a; values = given_in s a shape numbers };
      state = stored s a;
    }

unfoldable pub performed : Guest → Access → List ℕ → List ℕ → Finished
performed s a numbers values =
    cond (shape_of a.fields).load (to_load s a (shape_of a.fields) numbers values) (to_store s a (shape_of a.fields) numbers)

-- a refusal gives back the state as it came, and no address or value
abbrev pub refusing : InstructionRefusal → Guest → Finished
refusing refusal s = record { outcome = record { answer = Err refusal; addresses = padded 16 []; values = padded 16 [] }; state = s }

abbrev pub finished_by : Guest → Result Access InstructionRefusal → List ℕ → Finished
finished_by s (Ok a) values = performed s a (padded 16 (registers_of a.fields)) values
finished_by s (Err refusal) values = refusing refusal s

unfoldable pub finished : Guest → ℕ → List ℕ → Finished
finished s w values = finished_by s (described_answer s w) values
