-- The fields at a word's bits, by the group in 27:25 (Layout.antt read the other way). Nothing here has to be believed beside those lines:
-- it takes the word of fields that fit, and whose form is their own, back to them (`fields_back`, proofs/RoundTrip.antt).
use Rattle.std.specs.Prelude.{ℕ, ◌+◌, ◌*◌, Bool, cond, ◌&&◌, eqb}
use Rattle.bits.specs.Field.{bit_of, field_of}
use Rattle.a32_fields.specs.Code.{loads}
use Rattle.a32_fields.specs.declared.kinds.Transfer.{Transfer}
use Rattle.a32_fields.specs.declared.kinds.Transfer.TheVariants.{Ldr, Str, Ldrb, Strb, Ldrh, Strh, Ldrsb, Ldrsh, Ldrd, Strd}
use Rattle.a32_fields.specs.declared.kinds.Immediate.{Immediate}
use Rattle.a32_fields.specs.declared.kinds.Register.{Register}
use Rattle.a32_fields.specs.declared.kinds.Literal.{Literal}
use Rattle.a32_fields.specs.declared.kinds.Multiple.{Multiple}
use Rattle.a32_fields.specs.declared.kinds.Fields.{Fields}

abbrev pub word_transfer : Bool → Bool → Transfer
word_transfer b l = cond b (cond l Ldrb Strb) (cond l Ldr Str)

-- with S and H 0 there is none, and LDRH or STRH, whose H is 1, makes another word
abbrev pub extra_transfer : Bool → Bool → Bool → Transfer
extra_transfer s h l = cond s (cond l (cond h Ldrsh Ldrsb) (cond h Strd Ldrd)) (cond l Ldrh Strh)

abbrev pub immediate_at : Transfer → ℕ → ℕ → Immediate
immediate_at transfer imm w =
    record {
      transfer = transfer;
      cond = field_of w 31 28;
      p = bit_of w 24;
      u = bit_of w 23;
      w = bit_of w 21;
      rn = field_of w 19 16;
      rt = field_of w 15 12;
      imm = imm;
    }

abbrev pub literal_at : Transfer → ℕ → ℕ → Literal
literal_at transfer imm w =
    record { transfer = transfer; cond = field_of w 31 28; u = bit_of w 23; rt = field_of w 15 12; imm = imm }

abbrev pub register_at : Transfer → ℕ → Register
register_at transfer w =
    record {
      transfer = transfer;
      cond = field_of w 31 28;
      p = bit_of w 24;
      u = bit_of w 23;
      w = bit_of w 21;
      rn = field_of w 19 16;
      rt = field_of w 15 12;
      rm = field_of w 3 0;
    }

abbrev pub multiple_at : ℕ → Multiple
multiple_at w =
    record {
      load = bit_of w 20;
      cond = field_of w 31 28;
      p = bit_of w 24;
      u = bit_of w 23;
      w = bit_of w 21;
      rn = field_of w 19 16;
      list = field_of w 15 0;
    }

-- a load with base 15 is a literal
abbrev pub offset_at : Transfer → ℕ → ℕ → Fields
offset_at transfer imm w =
    cond (loads transfer && eqb (field_of w 19 16) 15) (Fields.Literal (literal_at transfer imm w))
    (Fields.Immediate (immediate_at transfer imm w))

abbrev pub word_transfer_at : ℕ → Transfer
word_transfer_at w = word_transfer (bit_of w 22) (bit_of w 20)

abbrev pub extra_transfer_at : ℕ → Transfer
extra_transfer_at w = extra_transfer (bit_of w 6) (bit_of w 5) (bit_of w 20)

abbrev pub extra_at : ℕ → Fields
extra_at w =
    cond (bit_of w 22) (offset_at (extra_transfer_at w) (field_of w 11 8 * 16 + field_of w 3 0) w)
    (Fields.Register (register_at (extra_transfer_at w) w))

unfoldable pub group_at : ℕ → ℕ → Fields
group_at group w =
    cond (eqb group 0b000) (extra_at w)
    (cond (eqb group 0b010) (offset_at (word_transfer_at w) (field_of w 11 0) w)
    (cond (eqb group 0b011) (Fields.Register (register_at (word_transfer_at w) w))
    (Fields.Multiple (multiple_at w))))

abbrev pub fields_at : ℕ → Fields
fields_at w = group_at (field_of w 27 25) w
