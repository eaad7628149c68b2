-- Short records and words are each other's, as long ones are.
-- Assumes nothing.
use mathlib.Core.Path.{◌≡◌, refl, ◌∙◌, ap}
use mathlib.Core.Bool.{Bool, true, cond}
use mathlib.Core.List.{List}
use Prim.Native.Nat.{ℕ}
use lib.ListN.{length}
use Rattle.short_record.specs.declared.kinds.Record.{Record}
use Rattle.record_of_words.specs.Reading.{word_in, same_below}
use Rattle.record_of_words.proofs.Alike.{flag_back, same_all, same_lists}
use Rattle.short_words.specs.Words.{words_of}
use Rattle.short_words.specs.Reading.{record_by, no_record, is_record, record_of}

pub sixteen : (r : Record) → length (words_of r) ≡ 16
sixteen (Record.Plain r) = refl
sixteen (Record.Wfx r) = refl
sixteen (Record.Mcr r) = refl
sixteen (Record.Mcrr r) = refl
sixteen (Record.Ldc r) = refl
sixteen (Record.Simd r) = refl
sixteen (Record.Call r) = refl
sixteen (Record.Smc r) = refl
sixteen (Record.InstructionAbort r) = refl
sixteen (Record.DataAbort r) = refl

-- what stands in the places of a record's words is the record
back : (r : Record) → record_by (word_in (words_of r) 0) (words_of r) ≡ r
unfolding record_by
back (Record.Plain r) = λ i. Record.Plain (record { class = r.class; il = flag_back r.il i })
back (Record.Wfx r) =
    λ i. Record.Wfx (record {
      il = flag_back r.il i;
      cv = flag_back r.cv i;
      cond = r.cond;
      ti = flag_back r.ti i;
    })
back (Record.Mcr r) =
    λ i. Record.Mcr (record {
      class = r.class;
      il = flag_back r.il i;
      cv = flag_back r.cv i;
      cond = r.cond;
      opc2 = r.opc2;
      opc1 = r.opc1;
      crn = r.crn;
      rt = r.rt;
      crm = r.crm;
      direction = flag_back r.direction i;
    })
back (Record.Mcrr r) =
    λ i. Record.Mcrr (record {
      class = r.class;
      il = flag_back r.il i;
      cv = flag_back r.cv i;
      cond = r.cond;
      opc1 = r.opc1;
      rt2 = r.rt2;
      rt = r.rt;
      crm = r.crm;
      direction = flag_back r.direction i;
    })
back (Record.Ldc r) =
    λ i. Record.Ldc (record {
      il = flag_back r.il i;
      cv = flag_back r.cv i;
      cond = r.cond;
      imm8 = r.imm8;
      rn = r.rn;
      offset = flag_back r.offset i;
      am = r.am;
      direction = flag_back r.direction i;
    })
back (Record.Simd r) =
    λ i. Record.Simd (record {
      il = flag_back r.il i;
      cv = flag_back r.cv i;
      cond = r.cond;
      ta = flag_back r.ta i;
      coproc = r.coproc;
    })
back (Record.Call r) = λ i. Record.Call (record { class = r.class; il = flag_back r.il i; imm16 = r.imm16 })
back (Record.Smc r) =
    λ i. Record.Smc (record {
      il = flag_back r.il i;
      cv = flag_back r.cv i;
      cond = r.cond;
      ccknownpass = flag_back r.ccknownpass i;
    })
back (Record.InstructionAbort r) =
    λ i. Record.InstructionAbort (record {
      il = flag_back r.il i;
      fnv = flag_back r.fnv i;
      ea = flag_back r.ea i;
      s1ptw = flag_back r.s1ptw i;
      code = r.code;
    })
back (Record.DataAbort r) =
    λ i. Record.DataAbort (record {
      il = flag_back r.il i;
      isv = flag_back r.isv i;
      sas = r.sas;
      sse = flag_back r.sse i;
      srt = r.srt;
      ar = flag_back r.ar i;
      aet = r.aet;
      ea = flag_back r.ea i;
      cm = flag_back r.cm i;
      s1ptw = flag_back r.s1ptw i;
      wnr = flag_back r.wnr i;
      code = r.code;
    })

pub words_are : (r : Record) → is_record (words_of r) ≡ true
words_are r = ap (λ (x : Record). same_below 16 (words_of x) (words_of r)) (back r) ∙ same_all 16 (words_of r)

-- every record, whatever its fields hold
pub record_back : (r : Record) → record_of (words_of r) ≡ r
unfolding record_of
record_back r = ap (λ (b : Bool). cond b (record_by (word_in (words_of r) 0) (words_of r)) no_record) (words_are r) ∙ back r

-- sixteen words that are a record's
pub words_back : (w : List ℕ) → length w ≡ 16 → is_record w ≡ true → words_of (record_of w) ≡ w
unfolding record_of
words_back w l e =
    ap (λ (b : Bool). words_of (cond b (record_by (word_in w 0) w) no_record)) e
    ∙ same_lists 16 (words_of (record_by (word_in w 0) w)) w (sixteen (record_by (word_in w 0) w)) l e
