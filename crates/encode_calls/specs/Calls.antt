-- What the call answers: the word of the fields that the first ten words hold, as a description hands them out (a32_words, `fields_words`).
use Rattle.std.specs.Prelude.{ℕ, ◌%◌, ◌≡◌, Bool, cond, ◌&&◌, ◌||◌, List, Option, Some, None, eqb, ltb, leb, get_or}
use Rattle.state_words.specs.Words.{is_mark}
use Rattle.a32_fields.specs.declared.kinds.Fields.{Fields}
use Rattle.a32_fields.specs.declared.kinds.Immediate.{Immediate}
use Rattle.a32_fields.specs.declared.kinds.Register.{Register}
use Rattle.a32_fields.specs.declared.kinds.Literal.{Literal}
use Rattle.a32_fields.specs.declared.kinds.Multiple.{Multiple}
use Rattle.a32_fields.specs.declared.kinds.Transfer.{Transfer}
use Rattle.a32_fields.specs.declared.kinds.Transfer.TheVariants.{Ldr, Str, Ldrb, Strb, Ldrh, Strh, Ldrsb, Ldrsh, Ldrd, Strd}
use Rattle.a32_rule.specs.Answer.{encode_of, number_encoded}

-- the transfer of a number below 10
unfoldable pub transfer_of : ℕ → Transfer
transfer_of n =
    cond (eqb n 0) Ldr
    (cond (eqb n 1) Str
    (cond (eqb n 2) Ldrb
    (cond (eqb n 3) Strb
    (cond (eqb n 4) Ldrh
    (cond (eqb n 5) Strh
    (cond (eqb n 6) Ldrsb
    (cond (eqb n 7) Ldrsh
    (cond (eqb n 8) Ldrd
    Strd))))))))

-- each field at its place; of the places that a form has no field for nothing is looked at, and every number but 0 is a set flag
abbrev pub immediate_of : Transfer → List ℕ → Immediate
immediate_of t ws =
    record {
      transfer = t;
      cond = get_or ws 1 0;
      p = is_mark (get_or ws 2 0);
      u = is_mark (get_or ws 3 0);
      w = is_mark (get_or ws 4 0);
      rn = get_or ws 5 0;
      rt = get_or ws 6 0;
      imm = get_or ws 7 0;
    }

abbrev pub register_of : Transfer → List ℕ → Register
register_of t ws =
    record {
      transfer = t;
      cond = get_or ws 1 0;
      p = is_mark (get_or ws 2 0);
      u = is_mark (get_or ws 3 0);
      w = is_mark (get_or ws 4 0);
      rn = get_or ws 5 0;
      rt = get_or ws 6 0;
      rm = get_or ws 8 0;
    }

abbrev pub literal_of : Transfer → List ℕ → Literal
literal_of t ws =
    record { transfer = t; cond = get_or ws 1 0; u = is_mark (get_or ws 3 0); rt = get_or ws 6 0; imm = get_or ws 7 0 }

abbrev pub multiple_of : Bool → List ℕ → Multiple
multiple_of load ws =
    record {
      load = load;
      cond = get_or ws 1 0;
      p = is_mark (get_or ws 2 0);
      u = is_mark (get_or ws 3 0);
      w = is_mark (get_or ws 4 0);
      rn = get_or ws 5 0;
      list = get_or ws 9 0;
    }

-- by the form's number: 0 to 9 with an immediate, 16 to 25 with a register, 32 to 41 a literal, 48 STM and 49 LDM
unfoldable pub fields_of : List ℕ → Option Fields
fields_of ws =
    cond (ltb (get_or ws 0 0) 10) (Some (Fields.Immediate (immediate_of (transfer_of (get_or ws 0 0)) ws)))
    (cond (leb 16 (get_or ws 0 0) && ltb (get_or ws 0 0) 26) (Some (Fields.Register (register_of (transfer_of (get_or ws 0 0 % 16)) ws)))
    (cond (leb 32 (get_or ws 0 0) && ltb (get_or ws 0 0) 42) (Some (Fields.Literal (literal_of (transfer_of (get_or ws 0 0 % 16)) ws)))
    (cond (eqb (get_or ws 0 0) 48 || eqb (get_or ws 0 0) 49) (Some (Fields.Multiple (multiple_of (eqb (get_or ws 0 0) 49) ws))) None)))

-- a number that is no form's is refused as fields that no word has are
abbrev pub encoded_of : Option Fields → Option ℕ
encoded_of (Some f) = encode_of f
encoded_of None = None

abbrev pub word_in : Option ℕ → ℕ
word_in (Some w) = w
word_in None = 0

pub record EncodedWord (ws : List ℕ) (n word : ℕ) : Type 0 where
  pub answer : n ≡ number_encoded (encoded_of (fields_of ws))
  pub made : word ≡ word_in (encoded_of (fields_of ws))
