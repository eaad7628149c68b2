-- What a load leaves: the registers of its mode, and where the guest goes on. The base is written back as well.
use Rattle.std.specs.Prelude.{ℕ, zero, suc, min, Bool, cond, List, Option, Some, None, ◌==◌, slice_index}
use Rattle.signed.specs.Signed.{signed, sum_of}
use Rattle.status.specs.Register.{held_in}
use Rattle.exception.specs.State.{with_register}
use Rattle.data.specs.Data.{transferred, extended}
use Rattle.a32_fields.specs.declared.kinds.Fields.{Fields}
use Rattle.a32_access.specs.declared.access.Access.{Access}
use Rattle.a32_access.specs.Place.{back_of}
use Rattle.a32_access.specs.Value.{value_of}
use Rattle.a32_transfer.specs.declared.shape.Shape.{Shape}
use Rattle.a32_transfer.specs.declared.landing.Landing.{Landing}

-- the registers with another value in a register of the mode, where the mode's mapping says (status, specs/Register.antt)
abbrev pub with_held : List ℕ → Option ℕ → ℕ → List ℕ
with_held regs (Some n) value = with_register regs n value
with_held regs None value = regs

-- Rn; a literal's base is register 15
abbrev pub base_register : Fields → ℕ
base_register (Fields.Immediate r) = r.rn
base_register (Fields.Register r) = r.rn
base_register (Fields.Literal r) = 15
base_register (Fields.Multiple r) = r.rn

-- THE BASE, where it is written back: what it held, and the access's change
abbrev pub written_back : List ℕ → ℕ → ℕ → Access → List ℕ
written_back regs pc mode a =
    cond (back_of a.fields)
    (with_held regs (held_in mode (base_register a.fields)) (sum_of (value_of regs pc mode (base_register a.fields)) (signed a.change)))
    regs

-- the device's value as the register takes it: cut to its size, reversed where the guest's data is big-endian, and extended (02, C-17)
abbrev pub arrived : Shape → Bool → ℕ → ℕ
arrived shape big value = extended shape.sas shape.sse (transferred shape.sas big value)

-- one register loaded; register 15 is a branch
abbrev pub load_to : ℕ → Landing → ℕ → ℕ → Landing
load_to mode to n value =
    cond (n == 15)
    (record { regs = to.regs; branch = Some value })
    (record { regs = with_held to.regs (held_in mode n) value; branch = to.branch })

-- the first registers loaded, in transfer order: numbers and values stand in lists
unfoldable pub loaded_first : List ℕ → ℕ → Bool → Shape → List ℕ → List ℕ → ℕ → Landing
loaded_first regs mode big shape numbers values zero = record { regs = regs; branch = None }
loaded_first regs mode big shape numbers values (suc i) =
    load_to mode (loaded_first regs mode big shape numbers values i) (slice_index numbers i) (arrived shape big (slice_index values i))

-- ALL of them: sixteen at most
abbrev pub landed : List ℕ → ℕ → Bool → Shape → List ℕ → List ℕ → ℕ → Landing
landed regs mode big shape numbers values count = loaded_first regs mode big shape numbers values (min count 16)
