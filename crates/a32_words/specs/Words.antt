-- A32 loads and stores as words: the number of a form, and what an access does (02, C-18).
use Rattle.std.specs.Prelude.{ℕ, ◌+◌, cond, List, [], ◌∷◌, ◌++◌}
use Rattle.record_words.specs.Words.{flag}
use Rattle.signed.specs.Signed.{signed, sum_of}
use Rattle.a32_fields.specs.declared.kinds.Fields.{Fields}
use Rattle.a32_fields.specs.declared.kinds.Immediate.{Immediate}
use Rattle.a32_fields.specs.declared.kinds.Register.{Register}
use Rattle.a32_fields.specs.declared.kinds.Literal.{Literal}
use Rattle.a32_fields.specs.declared.kinds.Multiple.{Multiple}
use Rattle.a32_fields.specs.declared.kinds.Transfer.{Transfer}
use Rattle.a32_fields.specs.declared.kinds.Transfer.TheVariants.{Ldr, Str, Ldrb, Strb, Ldrh, Strh, Ldrsb, Ldrsh, Ldrd, Strd}
use Rattle.a32_access.specs.declared.access.Access.{Access}
use Rattle.a32_transfer.specs.Shape.{shape_of}
use Rattle.a32_transfer.specs.declared.shape.Shape.{Shape}

-- the transfers by number
abbrev pub transfer_number : Transfer → ℕ
transfer_number Ldr = 0
transfer_number Str = 1
transfer_number Ldrb = 2
transfer_number Strb = 3
transfer_number Ldrh = 4
transfer_number Strh = 5
transfer_number Ldrsb = 6
transfer_number Ldrsh = 7
transfer_number Ldrd = 8
transfer_number Strd = 9

-- an instruction's form: its transfer, and 0 with an immediate, 16 with a register, 32 for a literal; 48 for STM and 49 for LDM
abbrev pub form_number : Fields → ℕ
form_number (Fields.Immediate r) = transfer_number r.transfer
form_number (Fields.Register r) = 16 + transfer_number r.transfer
form_number (Fields.Literal r) = 32 + transfer_number r.transfer
form_number (Fields.Multiple r) = cond r.load 49 48

-- COND, P, U, W, Rn, Rt, the immediate, Rm and the list; what a form lacks is 0
abbrev pub immediate_after : Immediate → List ℕ
immediate_after r = r.cond ∷ flag r.p ∷ flag r.u ∷ flag r.w ∷ r.rn ∷ r.rt ∷ r.imm ∷ 0 ∷ 0 ∷ []

abbrev pub register_after : Register → List ℕ
register_after r = r.cond ∷ flag r.p ∷ flag r.u ∷ flag r.w ∷ r.rn ∷ r.rt ∷ 0 ∷ r.rm ∷ 0 ∷ []

abbrev pub literal_after : Literal → List ℕ
literal_after r = r.cond ∷ 0 ∷ flag r.u ∷ 0 ∷ 0 ∷ r.rt ∷ r.imm ∷ 0 ∷ 0 ∷ []

abbrev pub multiple_after : Multiple → List ℕ
multiple_after r = r.cond ∷ flag r.p ∷ flag r.u ∷ flag r.w ∷ r.rn ∷ 0 ∷ 0 ∷ 0 ∷ r.list ∷ []

abbrev pub fields_after : Fields → List ℕ
fields_after (Fields.Immediate r) = immediate_after r
fields_after (Fields.Register r) = register_after r
fields_after (Fields.Literal r) = literal_after r
fields_after (Fields.Multiple r) = multiple_after r

abbrev pub fields_words : Fields → List ℕ
fields_words f = form_number f ∷ fields_after f

-- whether memory is read, SAS and SSE
abbrev pub shape_words : Shape → List ℕ
shape_words s = flag s.load ∷ s.sas ∷ flag s.sse ∷ []

-- then the number of registers, the first address, and the change of the base modulo 2^32
unfoldable pub access_words : Access → List ℕ
access_words a =
    fields_words a.fields ++ (shape_words (shape_of a.fields) ++ (a.count ∷ a.address ∷ sum_of 0 (signed a.change) ∷ []))
