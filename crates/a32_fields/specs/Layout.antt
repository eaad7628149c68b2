-- Where each form's fields stand in the word (02, C-18; the manual's encodings A1). Bits that no line names are 0: of a word or byte with a
-- register offset imm5 and type, bits 11:5 (LSL by 0, so a plain register), and bit 4; of the others with one bits 11:8. Form by form, the
-- condition c, Rn n, Rt t, Rm m, an immediate i and a list r:
--
--               with an immediate                  with a register                    literal
--     LDR       cccc010pu0w1nnnnttttiiiiiiiiiiii   cccc011pu0w1nnnntttt00000000mmmm   cccc0101u0011111ttttiiiiiiiiiiii
--     STR       cccc010pu0w0nnnnttttiiiiiiiiiiii   cccc011pu0w0nnnntttt00000000mmmm
--     LDRB      cccc010pu1w1nnnnttttiiiiiiiiiiii   cccc011pu1w1nnnntttt00000000mmmm   cccc0101u1011111ttttiiiiiiiiiiii
--     STRB      cccc010pu1w0nnnnttttiiiiiiiiiiii   cccc011pu1w0nnnntttt00000000mmmm
--     LDRH      cccc000pu1w1nnnnttttiiii1011iiii   cccc000pu0w1nnnntttt00001011mmmm   cccc0001u1011111ttttiiii1011iiii
--     STRH      cccc000pu1w0nnnnttttiiii1011iiii   cccc000pu0w0nnnntttt00001011mmmm
--     LDRSB     cccc000pu1w1nnnnttttiiii1101iiii   cccc000pu0w1nnnntttt00001101mmmm   cccc0001u1011111ttttiiii1101iiii
--     LDRSH     cccc000pu1w1nnnnttttiiii1111iiii   cccc000pu0w1nnnntttt00001111mmmm   cccc0001u1011111ttttiiii1111iiii
--     LDRD      cccc000pu1w0nnnnttttiiii1101iiii   cccc000pu0w0nnnntttt00001101mmmm   cccc0001u1001111ttttiiii1101iiii
--     STRD      cccc000pu1w0nnnnttttiiii1111iiii   cccc000pu0w0nnnntttt00001111mmmm
--     LDM       cccc100pu0w1nnnnrrrrrrrrrrrrrrrr
--     STM       cccc100pu0w0nnnnrrrrrrrrrrrrrrrr
use Rattle.std.specs.Prelude.{ℕ, ◌/◌, ◌%◌, Bool, true, false, List, [], ◌∷◌}
use Rattle.bits.specs.Layout.{Field, at, flag_at, word_of}
use Rattle.a32_fields.specs.Code.{code_of}
use Rattle.a32_fields.specs.declared.kinds.Code.{Code}
use Rattle.a32_fields.specs.declared.kinds.Code.TheVariants.{Word, Extra}
use Rattle.a32_fields.specs.declared.kinds.Immediate.{Immediate}
use Rattle.a32_fields.specs.declared.kinds.Register.{Register}
use Rattle.a32_fields.specs.declared.kinds.Literal.{Literal}
use Rattle.a32_fields.specs.declared.kinds.Multiple.{Multiple}
use Rattle.a32_fields.specs.declared.kinds.Fields.{Fields}

-- what every form has: the condition, the group, P, U, bit 22, W, L and Rn
abbrev pub head : ℕ → ℕ → Bool → Bool → Bool → Bool → Bool → ℕ → List Field → List Field
head cond group p u bit22 w l rn rest =
    at 31 28 cond ∷ at 27 25 group ∷ flag_at 24 p ∷ flag_at 23 u ∷ flag_at 22 bit22 ∷ flag_at 21 w ∷ flag_at 20 l ∷ at 19 16 rn ∷ rest

-- bits 7:4 of halfwords, signed and dual transfers, and the four bits below them
abbrev pub tail : Bool → Bool → ℕ → List Field
tail s h low = flag_at 7 true ∷ flag_at 6 s ∷ flag_at 5 h ∷ flag_at 4 true ∷ at 3 0 low ∷ []

-- an immediate offset: imm12, or imm4H and imm4L
abbrev pub offset_fields : Code → ℕ → Bool → Bool → Bool → ℕ → ℕ → ℕ → List Field
offset_fields (Word b l) cond p u w rn rt imm = head cond 0b010 p u b w l rn (at 15 12 rt ∷ at 11 0 imm ∷ [])
offset_fields (Extra s h l) cond p u w rn rt imm = head cond 0b000 p u true w l rn (at 15 12 rt ∷ at 11 8 (imm / 16) ∷ tail s h (imm % 16))

abbrev pub immediate_fields : Immediate → List Field
immediate_fields r = offset_fields (code_of r.transfer) r.cond r.p r.u r.w r.rn r.rt r.imm

-- a literal: base 15, P 1 and W 0
abbrev pub literal_fields : Literal → List Field
literal_fields r = offset_fields (code_of r.transfer) r.cond true r.u false 15 r.rt r.imm

-- an offset register
abbrev pub index_fields : Code → ℕ → Bool → Bool → Bool → ℕ → ℕ → ℕ → List Field
index_fields (Word b l) cond p u w rn rt rm = head cond 0b011 p u b w l rn (at 15 12 rt ∷ at 3 0 rm ∷ [])
index_fields (Extra s h l) cond p u w rn rt rm = head cond 0b000 p u false w l rn (at 15 12 rt ∷ tail s h rm)

abbrev pub register_fields : Register → List Field
register_fields r = index_fields (code_of r.transfer) r.cond r.p r.u r.w r.rn r.rt r.rm

abbrev pub multiple_fields : Multiple → List Field
multiple_fields r = head r.cond 0b100 r.p r.u false r.w r.load r.rn (at 15 0 r.list ∷ [])

abbrev pub fields_of : Fields → List Field
fields_of (Fields.Immediate r) = immediate_fields r
fields_of (Fields.Register r) = register_fields r
fields_of (Fields.Literal r) = literal_fields r
fields_of (Fields.Multiple r) = multiple_fields r

-- the word of some fields: each at its bits, every other bit as its form fixes it
abbrev pub fields_word : Fields → ℕ
fields_word f = word_of (fields_of f)
