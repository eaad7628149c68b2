-- What an edition has is not nothing: from either origin every class has a record that every edition has.
-- Assumes nothing.
use mathlib.Core.Path.{◌≡◌, refl}
use mathlib.Core.Bool.{true, false, cond}
use mathlib.Core.List.{List, [], ◌∷◌}
use Prim.Native.Nat.{ℕ}
use Rattle.bits.specs.Field.{field_of}
use Rattle.edition.proofs.Everywhere.{AllHave, all_masks, all_have}
use Rattle.record.specs.Class.{classes}
use Rattle.record.specs.Origin.{from_aarch64}
use Rattle.layout.specs.Fields.{record_word}
use Rattle.record.specs.declared.origin.Origin.{Origin}
use Rattle.record.specs.declared.kinds.Record.{Record}
use Rattle.edition.specs.Feature.{editions}
use Rattle.rule.specs.Has.{lawful, has}

-- the classes of some records: EC of their words
abbrev pub classes_of : List Record → List ℕ
classes_of [] = []
classes_of (r ∷ rs) = field_of (record_word r) 31 26 ∷ classes_of rs

-- an MRC, of a class
mrc : ℕ → Record
mrc c =
    Record.Mcr
    record { class = c; il = true; cv = true; cond = 14; opc2 = 0; opc1 = 0; crn = 0; rt = 0; crm = 0; direction = true }

-- an MRRC, of a class
mrrc : ℕ → Record
mrrc c = Record.Mcrr record { class = c; il = true; cv = true; cond = 14; opc1 = 0; rt2 = 0; rt = 0; crm = 0; direction = true }

-- a record without fields, of a class
plain : ℕ → Record
plain c = Record.Plain record { class = c; il = true }

-- an instruction with an immediate, of a class
call : ℕ → Record
call c = Record.Call record { class = c; il = true; imm16 = 1 }

-- a WFI
wfi : Record
wfi = Record.Wfx record { il = true; cv = true; cond = 14; ti = false }

-- a SIMD or floating-point instruction
simd : Record
simd = Record.Simd record { il = true; cv = true; cond = 14 }

-- an instruction abort, a translation fault of level 1
fetch : Record
fetch = Record.InstructionAbort record { il = true; set = 0; fnv = false; ea = false; s1ptw = false; code = 5 }

-- an SError interrupt that is not classified
serror : Record
serror = Record.SError record { il = true; aet = 0; ea = false; code = 0 }

-- a breakpoint
breakpoint : Record
breakpoint = Record.Debug record { class = 0x30; il = true }

-- a software step
step : Record
step = Record.Step record { il = true; isv = true; ex = false }

-- a watchpoint hit by a write
watchpoint : Record
watchpoint = Record.Watchpoint record { il = true; cm = false; wnr = true }

-- a word store of register 3
store : Record
store =
    Record.DataAbort
    record {
      il = true;
      isv = true;
      sas = 2;
      sse = false;
      srt = 3;
      sf = false;
      ar = false;
      set = 0;
      fnv = false;
      ea = false;
      cm = false;
      s1ptw = false;
      wnr = true;
      code = 5;
    }

-- from AArch64 a load of 64 bits into register 31
load : Record
load =
    Record.DataAbort
    record {
      il = true;
      isv = true;
      sas = 3;
      sse = false;
      srt = 31;
      sf = true;
      ar = false;
      set = 0;
      fnv = false;
      ea = false;
      cm = false;
      s1ptw = false;
      wnr = false;
      code = 5;
    }

-- a record of each class from AArch32
aarch32_samples : List Record
unfolding mrc mrrc plain call wfi simd fetch store serror breakpoint step watchpoint
aarch32_samples =
    plain 0x00 ∷ wfi ∷ mrc 0x03 ∷ mrrc 0x04 ∷ mrc 0x05
    ∷ Record.Ldc record { il = true; cv = true; cond = 14; imm8 = 0; rn = 0; offset = true; am = 0; direction = true }
    ∷ simd ∷ mrc 0x08 ∷ mrrc 0x0C ∷ plain 0x0E ∷ call 0x11 ∷ call 0x12
    ∷ Record.Smc record { il = true; cv = false; cond = 0; ccknownpass = false }
    ∷ fetch ∷ plain 0x22 ∷ store ∷ serror ∷ breakpoint ∷ step ∷ watchpoint ∷ call 0x38
    ∷ Record.Debug record { class = 0x3A; il = true } ∷ []

-- a record of each class from AArch64
aarch64_samples : List Record
unfolding plain call wfi simd fetch load serror breakpoint step watchpoint
aarch64_samples =
    plain 0x00 ∷ wfi ∷ simd ∷ plain 0x0E ∷ call 0x15 ∷ call 0x16 ∷ call 0x17
    ∷ Record.System record { il = true; op0 = 3; op2 = 0; op1 = 0; crn = 0; rt = 0; crm = 0; direction = true }
    ∷ fetch ∷ plain 0x22 ∷ load ∷ serror ∷ breakpoint ∷ step ∷ watchpoint ∷ []

-- a record of each class, from each origin
pub samples : Origin → List Record
samples o = cond (from_aarch64 o) aarch64_samples aarch32_samples

-- one for each class of the origin
pub every_class : (o : Origin) → classes_of (samples o) ≡ classes o
unfolding samples aarch32_samples aarch64_samples
every_class Origin.AArch32 = refl
every_class Origin.AArch64 = refl

-- and in every edition
pub every_edition : (o : Origin) → AllHave editions (has o) (samples o)
unfolding samples aarch32_samples aarch64_samples lawful has all_masks
every_edition Origin.AArch32 = all_have editions (has Origin.AArch32) (samples Origin.AArch32) tt
every_edition Origin.AArch64 = all_have editions (has Origin.AArch64) (samples Origin.AArch64) tt
