-- What each instruction moves: whether memory is read, how wide a transfer is, and whether a load is extended by its sign. LDRD, STRD and
-- lists move word by word.
use Rattle.std.specs.Prelude.{ℕ, Bool, true, false}
use Rattle.a32_fields.specs.declared.kinds.Fields.{Fields}
use Rattle.a32_fields.specs.declared.kinds.Transfer.{Transfer}
use Rattle.a32_fields.specs.declared.kinds.Transfer.TheVariants.{Ldr, Str, Ldrb, Strb, Ldrh, Strh, Ldrsb, Ldrsh, Ldrd, Strd}
use Rattle.a32_transfer.specs.declared.shape.Shape.{Shape}

-- SAS 0 is a byte, 1 a halfword, 2 a word; SSE 1 extends by the sign (crate device, specs/Data.antt)
abbrev pub moves : Bool → ℕ → Bool → Shape
moves load sas sse = record { load = load; sas = sas; sse = sse }

abbrev pub transfer_shape : Transfer → Shape
transfer_shape Ldr = moves true 2 false
transfer_shape Str = moves false 2 false
transfer_shape Ldrb = moves true 0 false
transfer_shape Strb = moves false 0 false
transfer_shape Ldrh = moves true 1 false
transfer_shape Strh = moves false 1 false
transfer_shape Ldrsb = moves true 0 true
transfer_shape Ldrsh = moves true 1 true
transfer_shape Ldrd = moves true 2 false
transfer_shape Strd = moves false 2 false

abbrev pub shape_of : Fields → Shape
shape_of (Fields.Immediate r) = transfer_shape r.transfer
shape_of (Fields.Register r) = transfer_shape r.transfer
shape_of (Fields.Literal r) = transfer_shape r.transfer
shape_of (Fields.Multiple r) = moves r.load 2 false
