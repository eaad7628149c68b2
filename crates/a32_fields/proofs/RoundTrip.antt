-- The fields at the bits of the word of some fields, which fit and whose form is their own, are those fields. One law over layouts,
-- `all_back`, gives every field; each form reads its own off. Assumes nothing.
use mathlib.Core.Path.{◌≡◌, refl, ◌∙◌, sym, ap, ap₂}
use mathlib.Core.Bool.{Bool, true, false, cond, not, ◌&&◌}
use Prim.Native.Nat.{ℕ, ◌+◌, ◌*◌, ◌/◌, ◌%◌, ◌^◌, ◌<◌}
use native.Mathlib.Nat.{div-add-mod'}
use lib.Dec.{T, eqb, lit≤}
use Rattle.bits.specs.Field.{field_of, bit_of}
use Rattle.bits.specs.Layout.{fitting, ordered}
use Rattle.bits.specs.Inner.{joined_from}
use Rattle.bits.proofs.Fields.{AllBack, all_back, word_below, joined_word, flag_back}
use Rattle.a32_fields.specs.Code.{code_of, loads}
use Rattle.a32_fields.specs.Layout.{offset_fields, index_fields, fields_of, fields_word}
use Rattle.a32_fields.specs.Split.{word_transfer, extra_transfer, immediate_at, literal_at, register_at, offset_at, extra_transfer_at}
use Rattle.a32_fields.specs.Split.{group_at, fields_at}
use Rattle.a32_fields.specs.declared.kinds.Transfer.{Transfer}
use Rattle.a32_fields.specs.declared.kinds.Transfer.TheVariants.{Ldr, Str, Ldrb, Strb, Ldrh, Strh, Ldrsb, Ldrsh, Ldrd, Strd}
use Rattle.a32_fields.specs.declared.kinds.Code.{Code}
use Rattle.a32_fields.specs.declared.kinds.Code.TheVariants.{Word, Extra}
use Rattle.a32_fields.specs.declared.kinds.Fields.{Fields}

-- every layout is in order, within 32 bits
offset_ordered : (k : Code) (cond : ℕ) (p u w : Bool) (rn rt imm : ℕ) → T (ordered 32 (offset_fields k cond p u w rn rt imm))
offset_ordered (Word b l) cond p u w rn rt imm = tt
offset_ordered (Extra s h l) cond p u w rn rt imm = tt

index_ordered : (k : Code) (cond : ℕ) (p u w : Bool) (rn rt rm : ℕ) → T (ordered 32 (index_fields k cond p u w rn rt rm))
index_ordered (Word b l) cond p u w rn rt rm = tt
index_ordered (Extra s h l) cond p u w rn rt rm = tt

pub fields_ordered : (f : Fields) → T (ordered 32 (fields_of f))
fields_ordered (Fields.Immediate r) = offset_ordered (code_of r.transfer) r.cond r.p r.u r.w r.rn r.rt r.imm
fields_ordered (Fields.Register r) = index_ordered (code_of r.transfer) r.cond r.p r.u r.w r.rn r.rt r.rm
fields_ordered (Fields.Literal r) = offset_ordered (code_of r.transfer) r.cond true r.u false 15 r.rt r.imm
fields_ordered (Fields.Multiple r) = tt

-- the transfer that some bits of its own name; those of each transfer name it
abbrev named : Code → Transfer
named (Word b l) = word_transfer b l
named (Extra s h l) = extra_transfer s h l

named_back : (t : Transfer) → named (code_of t) ≡ t
named_back Ldr = refl
named_back Str = refl
named_back Ldrb = refl
named_back Strb = refl
named_back Ldrh = refl
named_back Strh = refl
named_back Ldrsb = refl
named_back Ldrsh = refl
named_back Ldrd = refl
named_back Strd = refl

-- what tells a literal from an immediate with base 15: a load has no such immediate, and a store no literal
abbrev pub own_form : Fields → Bool
own_form (Fields.Immediate r) = not (loads r.transfer && eqb r.rn 15)
own_form (Fields.Register r) = true
own_form (Fields.Literal r) = loads r.transfer
own_form (Fields.Multiple r) = true

not_back : (b : Bool) → not b ≡ true → b ≡ false
not_back true e = sym e
not_back false e = refl

-- an imm8 in two halves
halves : (word imm : ℕ) → field_of word 11 8 ≡ imm / 16 → field_of word 3 0 ≡ imm % 16 → field_of word 11 8 * 16 + field_of word 3 0 ≡ imm
halves word imm high low = ap₂ (λ (x y : ℕ). x * 16 + y) high low ∙ div-add-mod' imm 16

-- halfwords, signed and dual transfers by bit 22
abbrev by_bit22 : ℕ → Bool → Fields
by_bit22 word b =
    cond b (offset_at (extra_transfer_at word) (field_of word 11 8 * 16 + field_of word 3 0) word)
    (Fields.Register (register_at (extra_transfer_at word) word))

module _ (word : ℕ) where
  -- a word that holds the fields of an immediate offset: what it says of the transfer and the immediate, and each field
  pub record OffsetBack (k : Code) (cond : ℕ) (p u w : Bool) (rn rt imm : ℕ) : Type 0 where
    pub as_offset : fields_at word ≡ offset_at (named k) imm word
    pub cond_back : field_of word 31 28 ≡ cond
    pub p_back : bit_of word 24 ≡ p
    pub u_back : bit_of word 23 ≡ u
    pub w_back : bit_of word 21 ≡ w
    pub rn_back : field_of word 19 16 ≡ rn
    pub rt_back : field_of word 15 12 ≡ rt

  offset_back : (k : Code) (cond : ℕ) (p u w : Bool) (rn rt imm : ℕ) → AllBack word (offset_fields k cond p u w rn rt imm)
      → OffsetBack k cond p u w rn rt imm
  unfolding group_at
  offset_back (Word b l) cond p u w rn rt imm a =
      record {
        as_offset =
            ap (λ (g : ℕ). group_at g word) a.1.0
            ∙ (λ i. offset_at (word_transfer (flag_back word 22 b a.1.1.1.1.0 i) (flag_back word 20 l a.1.1.1.1.1.1.0 i))
            (a.1.1.1.1.1.1.1.1.1.0 i) word);
        cond_back = a.0;
        p_back = flag_back word 24 p a.1.1.0;
        u_back = flag_back word 23 u a.1.1.1.0;
        w_back = flag_back word 21 w a.1.1.1.1.1.0;
        rn_back = a.1.1.1.1.1.1.1.0;
        rt_back = a.1.1.1.1.1.1.1.1.0;
      }
  offset_back (Extra s h l) cond p u w rn rt imm a =
      let tail = a.1.1.1.1.1.1.1.1.1 in
      record {
        as_offset =
            ap (λ (g : ℕ). group_at g word) a.1.0
            ∙ ap (by_bit22 word) (flag_back word 22 true a.1.1.1.1.0)
            ∙ (λ i. offset_at (extra_transfer (flag_back word 6 s tail.1.1.0 i) (flag_back word 5 h tail.1.1.1.0 i)
            (flag_back word 20 l a.1.1.1.1.1.1.0 i))
            (halves word imm a.1.1.1.1.1.1.1.1.1.0 tail.1.1.1.1.1.0 i) word);
        cond_back = a.0;
        p_back = flag_back word 24 p a.1.1.0;
        u_back = flag_back word 23 u a.1.1.1.0;
        w_back = flag_back word 21 w a.1.1.1.1.1.0;
        rn_back = a.1.1.1.1.1.1.1.0;
        rt_back = a.1.1.1.1.1.1.1.1.0;
      }

  -- the same of an offset register
  pub record IndexBack (k : Code) (cond : ℕ) (p u w : Bool) (rn rt rm : ℕ) : Type 0 where
    pub as_register : fields_at word ≡ Fields.Register (register_at (named k) word)
    pub cond_back : field_of word 31 28 ≡ cond
    pub p_back : bit_of word 24 ≡ p
    pub u_back : bit_of word 23 ≡ u
    pub w_back : bit_of word 21 ≡ w
    pub rn_back : field_of word 19 16 ≡ rn
    pub rt_back : field_of word 15 12 ≡ rt
    pub rm_back : field_of word 3 0 ≡ rm

  index_back : (k : Code) (cond : ℕ) (p u w : Bool) (rn rt rm : ℕ) → AllBack word (index_fields k cond p u w rn rt rm)
      → IndexBack k cond p u w rn rt rm
  unfolding group_at
  index_back (Word b l) cond p u w rn rt rm a =
      record {
        as_register =
            ap (λ (g : ℕ). group_at g word) a.1.0
            ∙ (λ i. Fields.Register (register_at (word_transfer (flag_back word 22 b a.1.1.1.1.0 i)
            (flag_back word 20 l a.1.1.1.1.1.1.0 i)) word));
        cond_back = a.0;
        p_back = flag_back word 24 p a.1.1.0;
        u_back = flag_back word 23 u a.1.1.1.0;
        w_back = flag_back word 21 w a.1.1.1.1.1.0;
        rn_back = a.1.1.1.1.1.1.1.0;
        rt_back = a.1.1.1.1.1.1.1.1.0;
        rm_back = a.1.1.1.1.1.1.1.1.1.0;
      }
  index_back (Extra s h l) cond p u w rn rt rm a =
      let tail = a.1.1.1.1.1.1.1.1 in
      record {
        as_register =
            ap (λ (g : ℕ). group_at g word) a.1.0
            ∙ ap (by_bit22 word) (flag_back word 22 false a.1.1.1.1.0)
            ∙ (λ i. Fields.Register (register_at (extra_transfer (flag_back word 6 s tail.1.1.0 i)
            (flag_back word 5 h tail.1.1.1.0 i) (flag_back word 20 l a.1.1.1.1.1.1.0 i)) word));
        cond_back = a.0;
        p_back = flag_back word 24 p a.1.1.0;
        u_back = flag_back word 23 u a.1.1.1.0;
        w_back = flag_back word 21 w a.1.1.1.1.1.0;
        rn_back = a.1.1.1.1.1.1.1.0;
        rt_back = a.1.1.1.1.1.1.1.1.0;
        rm_back = tail.1.1.1.1.1.0;
      }

  -- each form's fields at the bits of a word that holds them
  at_bits : (f : Fields) → own_form f ≡ true → AllBack word (fields_of f) → fields_at word ≡ f
  unfolding group_at
  at_bits (Fields.Immediate r) own a =
      let b = offset_back (code_of r.transfer) r.cond r.p r.u r.w r.rn r.rt r.imm a in
      b.as_offset
      ∙ ap (λ (t : Transfer). offset_at t r.imm word) (named_back r.transfer)
      ∙ ap (λ (l : Bool). cond l (Fields.Literal (literal_at r.transfer r.imm word))
      (Fields.Immediate (immediate_at r.transfer r.imm word)))
      (ap (λ (n : ℕ). loads r.transfer && eqb n 15) b.rn_back ∙ not_back (loads r.transfer && eqb r.rn 15) own)
      ∙ ap Fields.Immediate
      (λ i. record {
        transfer = r.transfer;
        cond = b.cond_back i;
        p = b.p_back i;
        u = b.u_back i;
        w = b.w_back i;
        rn = b.rn_back i;
        rt = b.rt_back i;
        imm = r.imm;
      })
  at_bits (Fields.Register r) own a =
      let b = index_back (code_of r.transfer) r.cond r.p r.u r.w r.rn r.rt r.rm a in
      b.as_register
      ∙ ap Fields.Register
      (λ i. record {
        transfer = named_back r.transfer i;
        cond = b.cond_back i;
        p = b.p_back i;
        u = b.u_back i;
        w = b.w_back i;
        rn = b.rn_back i;
        rt = b.rt_back i;
        rm = b.rm_back i;
      })
  at_bits (Fields.Literal r) own a =
      let b = offset_back (code_of r.transfer) r.cond true r.u false 15 r.rt r.imm a in
      b.as_offset
      ∙ ap (λ (t : Transfer). offset_at t r.imm word) (named_back r.transfer)
      ∙ ap (λ (l : Bool). cond l (Fields.Literal (literal_at r.transfer r.imm word))
      (Fields.Immediate (immediate_at r.transfer r.imm word)))
      (ap₂ (λ (l : Bool) (n : ℕ). l && eqb n 15) own b.rn_back)
      ∙ ap Fields.Literal
      (λ i. record {
        transfer = r.transfer;
        cond = b.cond_back i;
        u = b.u_back i;
        rt = b.rt_back i;
        imm = r.imm;
      })
  at_bits (Fields.Multiple r) own a =
      ap (λ (g : ℕ). group_at g word) a.1.0
      ∙ ap Fields.Multiple
      (λ i. record {
        load = flag_back word 20 r.load a.1.1.1.1.1.1.0 i;
        cond = a.0 i;
        p = flag_back word 24 r.p a.1.1.0 i;
        u = flag_back word 23 r.u a.1.1.1.0 i;
        w = flag_back word 21 r.w a.1.1.1.1.1.0 i;
        rn = a.1.1.1.1.1.1.1.0 i;
        list = a.1.1.1.1.1.1.1.1.0 i;
      })

-- THE ROUND TRIP: taking the word of some fields apart gives those fields
pub fields_back : (f : Fields) → own_form f ≡ true → T (fitting (fields_of f)) → fields_at (fields_word f) ≡ f
fields_back f own fits = at_bits (fields_word f) f own (all_back 32 (fields_of f) (fields_ordered f) fits)

-- the word of fields that fit has 32 bits
pub word_fits : (f : Fields) → T (fitting (fields_of f)) → fields_word f < 2 ^ 32
word_fits f fits = word_below 32 (fields_of f) (fields_ordered f) fits

-- put together, fields that fit are their word
pub joined_fields : (f : Fields) → T (fitting (fields_of f)) → joined_from 0 (fields_of f) ≡ fields_word f
joined_fields f fits = joined_word 32 (fields_of f) (lit≤ tt) (fields_ordered f) fits
