-- The record at the bits of a record's word is that record. One law over layouts, `all_back`, gives every field; each kind reads its own
-- off. Assumes nothing.
use mathlib.Core.Path.{◌≡◌, refl, ◌∙◌, ap, ap₂}
use mathlib.Core.Bool.{Bool, true, false}
use Prim.Native.Nat.{ℕ, ◌^◌, ◌<◌}
use lib.Dec.{T, eqb, lit≤}
use Rattle.bits.specs.Field.{field_of, bit_of}
use Rattle.bits.specs.Layout.{fitting, ordered}
use Rattle.bits.specs.Inner.{joined_from}
use Rattle.bits.proofs.Among.{among_each, among_other}
use Rattle.bits.proofs.Fields.{AllBack, all_back, word_below, joined_word, flag_back}
use Rattle.record.specs.Class.{plain_classes, mcr_classes, mcrr_classes, call_classes, debug_classes, head_of}
use Rattle.layout.specs.Fields.{plain_fields, wfx_fields, call_fields, smc_fields, fields_of, record_word}
use Rattle.record.specs.Split.{plain_at, wfx_at, mcr_at, mcrr_at, call_at, smc_at, debug_at, record_of, record_at}
use Rattle.record.specs.declared.kinds.Plain.{Plain}
use Rattle.record.specs.declared.kinds.Wfx.{Wfx}
use Rattle.record.specs.declared.kinds.Call.{Call}
use Rattle.record.specs.declared.kinds.Smc.{Smc}
use Rattle.record.specs.declared.kinds.Record.{Record}

-- every layout is in order, within 32 bits
pub fields_ordered : (r : Record) → T (ordered 32 (fields_of r))
fields_ordered (Record.Plain r) = tt
fields_ordered (Record.Wfx r) = tt
fields_ordered (Record.Mcr r) = tt
fields_ordered (Record.Mcrr r) = tt
fields_ordered (Record.Ldc r) = tt
fields_ordered (Record.Simd r) = tt
fields_ordered (Record.Call r) = tt
fields_ordered (Record.Smc r) = tt
fields_ordered (Record.InstructionAbort r) = tt
fields_ordered (Record.DataAbort r) = tt
fields_ordered (Record.Debug r) = tt
fields_ordered (Record.Step r) = tt
fields_ordered (Record.Watchpoint r) = tt
fields_ordered (Record.SError r) = tt
fields_ordered (Record.System r) = tt

module _ (w : ℕ) where
  -- the kinds that the short form has too, at the bits of a word that holds their fields
  pub plain_back : (r : Plain) → AllBack w (plain_fields r) → plain_at r.class w ≡ r
  plain_back r b =
      λ i. record {
        class = r.class;
        il = flag_back w 25 r.il b.1.0 i;
      }

  pub wfx_back : (r : Wfx) → AllBack w (wfx_fields r) → wfx_at w ≡ r
  wfx_back r b =
      λ i. record {
        il = flag_back w 25 r.il b.1.0 i;
        cv = flag_back w 24 r.cv b.1.1.0 i;
        cond = b.1.1.1.0 i;
        ti = flag_back w 0 r.ti b.1.1.1.1.0 i;
      }

  pub call_back : (r : Call) → AllBack w (call_fields r) → call_at r.class w ≡ r
  call_back r b =
      λ i. record {
        class = r.class;
        il = flag_back w 25 r.il b.1.0 i;
        imm16 = b.1.1.0 i;
      }

  pub smc_back : (r : Smc) → AllBack w (smc_fields r) → smc_at w ≡ r
  smc_back r b =
      λ i. record {
        il = flag_back w 25 r.il b.1.0 i;
        cv = flag_back w 24 r.cv b.1.1.0 i;
        cond = b.1.1.1.0 i;
        ccknownpass = flag_back w 19 r.ccknownpass b.1.1.1.1.0 i;
      }

  -- each kind's record at the bits of a word that holds its fields
  at_bits : (r : Record) → (head_of r).own ≡ true → AllBack w (fields_of r) → record_at w ≡ r
  unfolding record_of
  at_bits (Record.Plain r) own b =
      ap (λ (c : ℕ). record_of c w) b.0
      ∙ among_each plain_classes (λ c. record_of c w ≡ Record.Plain (plain_at c w)) (refl, (refl, (refl, tt))) r.class own
      ∙ ap Record.Plain (plain_back r b)
  at_bits (Record.Wfx r) own b =
      ap (λ (c : ℕ). record_of c w) b.0
      ∙ ap Record.Wfx (wfx_back r b)
  at_bits (Record.Mcr r) own b =
      ap (λ (c : ℕ). record_of c w) b.0
      ∙ among_each mcr_classes (λ c. record_of c w ≡ Record.Mcr (mcr_at c w)) (refl, (refl, (refl, tt))) r.class own
      ∙ ap Record.Mcr
      (λ i. record {
        class = r.class;
        il = flag_back w 25 r.il b.1.0 i;
        cv = flag_back w 24 r.cv b.1.1.0 i;
        cond = b.1.1.1.0 i;
        opc2 = b.1.1.1.1.0 i;
        opc1 = b.1.1.1.1.1.0 i;
        crn = b.1.1.1.1.1.1.0 i;
        rt = b.1.1.1.1.1.1.1.0 i;
        crm = b.1.1.1.1.1.1.1.1.0 i;
        direction = flag_back w 0 r.direction b.1.1.1.1.1.1.1.1.1.0 i;
      })
  at_bits (Record.Mcrr r) own b =
      ap (λ (c : ℕ). record_of c w) b.0
      ∙ among_each mcrr_classes (λ c. record_of c w ≡ Record.Mcrr (mcrr_at c w)) (refl, (refl, tt)) r.class own
      ∙ ap Record.Mcrr
      (λ i. record {
        class = r.class;
        il = flag_back w 25 r.il b.1.0 i;
        cv = flag_back w 24 r.cv b.1.1.0 i;
        cond = b.1.1.1.0 i;
        opc1 = b.1.1.1.1.0 i;
        rt2 = b.1.1.1.1.1.0 i;
        rt = b.1.1.1.1.1.1.0 i;
        crm = b.1.1.1.1.1.1.1.0 i;
        direction = flag_back w 0 r.direction b.1.1.1.1.1.1.1.1.0 i;
      })
  at_bits (Record.Ldc r) own b =
      ap (λ (c : ℕ). record_of c w) b.0
      ∙ ap Record.Ldc
      (λ i. record {
        il = flag_back w 25 r.il b.1.0 i;
        cv = flag_back w 24 r.cv b.1.1.0 i;
        cond = b.1.1.1.0 i;
        imm8 = b.1.1.1.1.0 i;
        rn = b.1.1.1.1.1.0 i;
        offset = flag_back w 4 r.offset b.1.1.1.1.1.1.0 i;
        am = b.1.1.1.1.1.1.1.0 i;
        direction = flag_back w 0 r.direction b.1.1.1.1.1.1.1.1.0 i;
      })
  at_bits (Record.Simd r) own b =
      ap (λ (c : ℕ). record_of c w) b.0
      ∙ ap Record.Simd
      (λ i. record {
        il = flag_back w 25 r.il b.1.0 i;
        cv = flag_back w 24 r.cv b.1.1.0 i;
        cond = b.1.1.1.0 i;
      })
  at_bits (Record.Call r) own b =
      ap (λ (c : ℕ). record_of c w) b.0
      ∙ among_each call_classes (λ c. record_of c w ≡ Record.Call (call_at c w)) (refl, (refl, (refl, (refl, (refl, (refl, tt)))))) r.class
      own
      ∙ ap Record.Call (call_back r b)
  at_bits (Record.Smc r) own b =
      ap (λ (c : ℕ). record_of c w) b.0
      ∙ ap Record.Smc (smc_back r b)
  at_bits (Record.InstructionAbort r) own b =
      ap (λ (c : ℕ). record_of c w) b.0
      ∙ ap Record.InstructionAbort
      (λ i. record {
        il = flag_back w 25 r.il b.1.0 i;
        set = b.1.1.0 i;
        fnv = flag_back w 10 r.fnv b.1.1.1.0 i;
        ea = flag_back w 9 r.ea b.1.1.1.1.0 i;
        s1ptw = flag_back w 7 r.s1ptw b.1.1.1.1.1.0 i;
        code = b.1.1.1.1.1.1.0 i;
      })
  at_bits (Record.DataAbort r) own b =
      ap (λ (c : ℕ). record_of c w) b.0
      ∙ ap Record.DataAbort
      (λ i. record {
        il = flag_back w 25 r.il b.1.0 i;
        isv = flag_back w 24 r.isv b.1.1.0 i;
        sas = b.1.1.1.0 i;
        sse = flag_back w 21 r.sse b.1.1.1.1.0 i;
        srt = b.1.1.1.1.1.0 i;
        sf = flag_back w 15 r.sf b.1.1.1.1.1.1.0 i;
        ar = flag_back w 14 r.ar b.1.1.1.1.1.1.1.0 i;
        set = b.1.1.1.1.1.1.1.1.0 i;
        fnv = flag_back w 10 r.fnv b.1.1.1.1.1.1.1.1.1.0 i;
        ea = flag_back w 9 r.ea b.1.1.1.1.1.1.1.1.1.1.0 i;
        cm = flag_back w 8 r.cm b.1.1.1.1.1.1.1.1.1.1.1.0 i;
        s1ptw = flag_back w 7 r.s1ptw b.1.1.1.1.1.1.1.1.1.1.1.1.0 i;
        wnr = flag_back w 6 r.wnr b.1.1.1.1.1.1.1.1.1.1.1.1.1.0 i;
        code = b.1.1.1.1.1.1.1.1.1.1.1.1.1.1.0 i;
      })
  at_bits (Record.Debug r) own b =
      ap (λ (c : ℕ). record_of c w) b.0
      ∙ among_each debug_classes (λ c. record_of c w ≡ Record.Debug (debug_at c w)) (refl, (refl, tt)) r.class own
      ∙ ap Record.Debug
      (λ i. record {
        class = r.class;
        il = flag_back w 25 r.il b.1.0 i;
      })
  at_bits (Record.Step r) own b =
      ap (λ (c : ℕ). record_of c w) b.0
      ∙ ap Record.Step
      (λ i. record {
        il = flag_back w 25 r.il b.1.0 i;
        isv = flag_back w 24 r.isv b.1.1.0 i;
        ex = flag_back w 6 r.ex b.1.1.1.0 i;
      })
  at_bits (Record.Watchpoint r) own b =
      ap (λ (c : ℕ). record_of c w) b.0
      ∙ ap Record.Watchpoint
      (λ i. record {
        il = flag_back w 25 r.il b.1.0 i;
        cm = flag_back w 8 r.cm b.1.1.0 i;
        wnr = flag_back w 6 r.wnr b.1.1.1.0 i;
      })
  at_bits (Record.SError r) own b =
      ap (λ (c : ℕ). record_of c w) b.0
      ∙ ap Record.SError
      (λ i. record {
        il = flag_back w 25 r.il b.1.0 i;
        aet = b.1.1.0 i;
        ea = flag_back w 9 r.ea b.1.1.1.0 i;
        code = b.1.1.1.1.0 i;
      })
  at_bits (Record.System r) own b =
      ap (λ (c : ℕ). record_of c w) b.0
      ∙ ap Record.System
      (λ i. record {
        il = flag_back w 25 r.il b.1.0 i;
        op0 = b.1.1.0 i;
        op2 = b.1.1.1.0 i;
        op1 = b.1.1.1.1.0 i;
        crn = b.1.1.1.1.1.0 i;
        rt = b.1.1.1.1.1.1.0 i;
        crm = b.1.1.1.1.1.1.1.0 i;
        direction = flag_back w 0 r.direction b.1.1.1.1.1.1.1.1.0 i;
      })

-- what stands at the bits of a record's word: each field's value
word_back : (r : Record) → T (fitting (fields_of r)) → AllBack (record_word r) (fields_of r)
word_back r fits = all_back 32 (fields_of r) (fields_ordered r) fits

-- THE ROUND TRIP: taking the word of a record apart gives that record
pub record_back : (r : Record) → (head_of r).own ≡ true → T (fitting (fields_of r)) → record_at (record_word r) ≡ r
record_back r own fits = at_bits (record_word r) r own (word_back r fits)

-- the word of a record whose fields fit has 32 bits
pub word_fits : (r : Record) → T (fitting (fields_of r)) → record_word r < 2 ^ 32
word_fits r fits = word_below 32 (fields_of r) (fields_ordered r) fits

-- put together, a record whose fields fit is its word
pub joined_record : (r : Record) → T (fitting (fields_of r)) → joined_from 0 (fields_of r) ≡ record_word r
joined_record r fits = joined_word 32 (fields_of r) (lit≤ tt) (fields_ordered r) fits

-- EC and IL of a word that holds a record's fields are the record's class and IL
module _ (w : ℕ) where
  heads_at : (r : Record) → AllBack w (fields_of r) → (field_of w 31 26 ≡ (head_of r).class) × (bit_of w 25 ≡ (head_of r).il)
  heads_at (Record.Plain r) b = (b.0, flag_back w 25 r.il b.1.0)
  heads_at (Record.Wfx r) b = (b.0, flag_back w 25 r.il b.1.0)
  heads_at (Record.Mcr r) b = (b.0, flag_back w 25 r.il b.1.0)
  heads_at (Record.Mcrr r) b = (b.0, flag_back w 25 r.il b.1.0)
  heads_at (Record.Ldc r) b = (b.0, flag_back w 25 r.il b.1.0)
  heads_at (Record.Simd r) b = (b.0, flag_back w 25 r.il b.1.0)
  heads_at (Record.Call r) b = (b.0, flag_back w 25 r.il b.1.0)
  heads_at (Record.Smc r) b = (b.0, flag_back w 25 r.il b.1.0)
  heads_at (Record.InstructionAbort r) b = (b.0, flag_back w 25 r.il b.1.0)
  heads_at (Record.DataAbort r) b = (b.0, flag_back w 25 r.il b.1.0)
  heads_at (Record.Debug r) b = (b.0, flag_back w 25 r.il b.1.0)
  heads_at (Record.Step r) b = (b.0, flag_back w 25 r.il b.1.0)
  heads_at (Record.Watchpoint r) b = (b.0, flag_back w 25 r.il b.1.0)
  heads_at (Record.SError r) b = (b.0, flag_back w 25 r.il b.1.0)
  heads_at (Record.System r) b = (b.0, flag_back w 25 r.il b.1.0)

  -- a test of the class and ISV, which asks for ISV at class 0x24 alone, says the same of bit 24 of the word
  isv_at : (test : ℕ → Bool → Bool) → ((c : ℕ) → eqb c 0x24 ≡ false → (a b : Bool) → test c a ≡ test c b) → (r : Record)
      → (head_of r).own ≡ true
      → AllBack w (fields_of r) → test (head_of r).class (bit_of w 24) ≡ test (head_of r).class (head_of r).isv
  isv_at test ignores (Record.Plain r) own b = ignores r.class (among_other plain_classes 0x24 tt r.class own) _ _
  isv_at test ignores (Record.Wfx r) own b = ignores 0x01 refl _ _
  isv_at test ignores (Record.Mcr r) own b = ignores r.class (among_other mcr_classes 0x24 tt r.class own) _ _
  isv_at test ignores (Record.Mcrr r) own b = ignores r.class (among_other mcrr_classes 0x24 tt r.class own) _ _
  isv_at test ignores (Record.Ldc r) own b = ignores 0x06 refl _ _
  isv_at test ignores (Record.Simd r) own b = ignores 0x07 refl _ _
  isv_at test ignores (Record.Call r) own b = ignores r.class (among_other call_classes 0x24 tt r.class own) _ _
  isv_at test ignores (Record.Smc r) own b = ignores 0x13 refl _ _
  isv_at test ignores (Record.InstructionAbort r) own b = ignores 0x20 refl _ _
  isv_at test ignores (Record.DataAbort r) own b = ap (test 0x24) (flag_back w 24 r.isv b.1.1.0)
  isv_at test ignores (Record.Debug r) own b = ignores r.class (among_other debug_classes 0x24 tt r.class own) _ _
  isv_at test ignores (Record.Step r) own b = ignores 0x32 refl _ _
  isv_at test ignores (Record.Watchpoint r) own b = ignores 0x34 refl _ _
  isv_at test ignores (Record.SError r) own b = ignores 0x2F refl _ _
  isv_at test ignores (Record.System r) own b = ignores 0x18 refl _ _

-- a test of class, ISV and IL says the same of a record and of its word's bits
pub head_test : (test : ℕ → Bool → Bool → Bool) → ((c : ℕ) → eqb c 0x24 ≡ false → (a b : Bool) (l : Bool) → test c a l ≡ test c b l)
    → (r : Record)
    → (head_of r).own ≡ true → T (fitting (fields_of r))
    → test (field_of (record_word r) 31 26) (bit_of (record_word r) 24) (bit_of (record_word r) 25)
    ≡ test (head_of r).class (head_of r).isv (head_of r).il
head_test test ignores r own fits =
    let w = record_word r in
    let b = word_back r fits in
    let h = heads_at w r b in
    ap₂ (λ (c : ℕ) (l : Bool). test c (bit_of w 24) l) h.0 h.1
    ∙ isv_at w (λ (c : ℕ) (a : Bool). test c a (head_of r).il) (λ c other x y. ignores c other x y (head_of r).il) r own b

-- a record's class stands at EC of its word
pub word_class : (r : Record) → T (fitting (fields_of r)) → field_of (record_word r) 31 26 ≡ (head_of r).class
word_class r fits = (heads_at (record_word r) r (word_back r fits)).0
