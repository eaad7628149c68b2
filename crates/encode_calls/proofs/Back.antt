-- FIELDS COME BACK from the words by which a description hands them out, whatever stands after these.
-- Assumes nothing.
use mathlib.Core.Path.{◌≡◌, refl}
use mathlib.Core.Bool.{Bool, true, false, ◌&&◌}
use mathlib.Core.List.{List, ◌++◌}
use Rattle.std.specs.Prelude.{Some}
use Prim.Native.Nat.{ℕ, ◌+◌, ◌%◌}
use lib.Dec.{ltb, leb}
use Rattle.record_words.specs.Words.{flag}
use Rattle.state_words.specs.Words.{is_mark}
use Rattle.a32_fields.specs.declared.kinds.Fields.{Fields}
use Rattle.a32_fields.specs.declared.kinds.Multiple.{Multiple}
use Rattle.a32_fields.specs.declared.kinds.Transfer.{Transfer}
use Rattle.a32_words.specs.Words.{transfer_number, fields_words}
use Rattle.encode_calls.specs.Calls.{transfer_of, fields_of}

mark_back : (b : Bool) → is_mark (flag b) ≡ b
mark_back true = refl
mark_back false = refl

with_immediate : (t : Transfer) → (ltb (transfer_number t) 10 ≡ true) × (transfer_of (transfer_number t) ≡ t)
unfolding transfer_of
with_immediate Transfer.Ldr = (refl, refl)
with_immediate Transfer.Str = (refl, refl)
with_immediate Transfer.Ldrb = (refl, refl)
with_immediate Transfer.Strb = (refl, refl)
with_immediate Transfer.Ldrh = (refl, refl)
with_immediate Transfer.Strh = (refl, refl)
with_immediate Transfer.Ldrsb = (refl, refl)
with_immediate Transfer.Ldrsh = (refl, refl)
with_immediate Transfer.Ldrd = (refl, refl)
with_immediate Transfer.Strd = (refl, refl)

with_register_lem : (t : Transfer) → (ltb (16 + transfer_number t) 10 ≡ false)
    × ((leb 16 (16 + transfer_number t) && ltb (16 + transfer_number t) 26) ≡ true) × (transfer_of ((16 + transfer_number t) % 16) ≡ t)
unfolding transfer_of
with_register_lem Transfer.Ldr = (refl, refl, refl)
with_register_lem Transfer.Str = (refl, refl, refl)
with_register_lem Transfer.Ldrb = (refl, refl, refl)
with_register_lem Transfer.Strb = (refl, refl, refl)
with_register_lem Transfer.Ldrh = (refl, refl, refl)
with_register_lem Transfer.Strh = (refl, refl, refl)
with_register_lem Transfer.Ldrsb = (refl, refl, refl)
with_register_lem Transfer.Ldrsh = (refl, refl, refl)
with_register_lem Transfer.Ldrd = (refl, refl, refl)
with_register_lem Transfer.Strd = (refl, refl, refl)

as_literal : (t : Transfer) → (ltb (32 + transfer_number t) 10 ≡ false)
    × ((leb 16 (32 + transfer_number t) && ltb (32 + transfer_number t) 26) ≡ false)
    × ((leb 32 (32 + transfer_number t) && ltb (32 + transfer_number t) 42) ≡ true) × (transfer_of ((32 + transfer_number t) % 16) ≡ t)
unfolding transfer_of
as_literal Transfer.Ldr = (refl, refl, refl, refl)
as_literal Transfer.Str = (refl, refl, refl, refl)
as_literal Transfer.Ldrb = (refl, refl, refl, refl)
as_literal Transfer.Strb = (refl, refl, refl, refl)
as_literal Transfer.Ldrh = (refl, refl, refl, refl)
as_literal Transfer.Strh = (refl, refl, refl, refl)
as_literal Transfer.Ldrsb = (refl, refl, refl, refl)
as_literal Transfer.Ldrsh = (refl, refl, refl, refl)
as_literal Transfer.Ldrd = (refl, refl, refl, refl)
as_literal Transfer.Strd = (refl, refl, refl, refl)

pub fields_back : (f : Fields) (rest : List ℕ) → fields_of (fields_words f ++ rest) ≡ Some f
unfolding fields_of
fields_back (Fields.Immediate r) rest =
    let n = with_immediate r.transfer in
    rw n.0 (λ i. Some (Fields.Immediate (record {
      transfer = n.1 i;
      cond = r.cond;
      p = mark_back r.p i;
      u = mark_back r.u i;
      w = mark_back r.w i;
      rn = r.rn;
      rt = r.rt;
      imm = r.imm;
    })))
fields_back (Fields.Register r) rest =
    let n = with_register_lem r.transfer in
    rw (n.0, n.1) (λ i. Some (Fields.Register (record {
      transfer = n.2 i;
      cond = r.cond;
      p = mark_back r.p i;
      u = mark_back r.u i;
      w = mark_back r.w i;
      rn = r.rn;
      rt = r.rt;
      rm = r.rm;
    })))
fields_back (Fields.Literal r) rest =
    let n = as_literal r.transfer in
    rw (n.0, n.1, n.2) (λ i. Some (Fields.Literal (record {
      transfer = n.3 i;
      cond = r.cond;
      u = mark_back r.u i;
      rt = r.rt;
      imm = r.imm;
    })))
fields_back (Fields.Multiple r) rest = listed r r.load refl
  where
    listed : (r : Multiple) (load : Bool) → r.load ≡ load
        → fields_of (fields_words (Fields.Multiple r) ++ rest) ≡ Some (Fields.Multiple r)
    listed r true e = rw e (λ i. Some (Fields.Multiple (record {
      load = true;
      cond = r.cond;
      p = mark_back r.p i;
      u = mark_back r.u i;
      w = mark_back r.w i;
      rn = r.rn;
      list = r.list;
    })))
    listed r false e = rw e (λ i. Some (Fields.Multiple (record {
      load = false;
      cond = r.cond;
      p = mark_back r.p i;
      u = mark_back r.u i;
      w = mark_back r.w i;
      rn = r.rn;
      list = r.list;
    })))
