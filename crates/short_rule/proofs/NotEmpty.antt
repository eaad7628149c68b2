-- What an edition has is not nothing: every class of the build has a record that every edition has.
-- Assumes nothing.
use mathlib.Core.Path.{◌≡◌, refl}
use mathlib.Core.Bool.{true, false}
use mathlib.Core.List.{List, [], ◌∷◌}
use Prim.Native.Nat.{ℕ}
use Rattle.bits.specs.Field.{field_of}
use Rattle.edition.proofs.Everywhere.{AllHave, all_masks, all_have}
use Rattle.short_record.specs.Class.{classes}
use Rattle.short_layout.specs.Fields.{record_word}
use Rattle.short_record.specs.declared.kinds.Record.{Record}
use Rattle.short_rule.specs.Edition.{editions}
use Rattle.short_rule.specs.Has.{lawful, has}

-- the classes of some records: EC of their words
abbrev pub classes_of : List Record → List ℕ
classes_of [] = []
classes_of (r ∷ rs) = field_of (record_word r) 31 26 ∷ classes_of rs

-- an MRC, of a class
mrc : ℕ → Record
mrc c =
    Record.Mcr
    record { class = c; il = true; cv = true; cond = 14; opc2 = 0; opc1 = 0; crn = 0; rt = 0; crm = 0; direction = true }

-- an MRRC, of a class
mrrc : ℕ → Record
mrrc c = Record.Mcrr record { class = c; il = true; cv = true; cond = 14; opc1 = 0; rt2 = 0; rt = 0; crm = 0; direction = true }

-- a record of each class
pub samples : List Record
unfolding mrc mrrc
samples =
    Record.Plain record { class = 0x00; il = true } ∷ Record.Wfx record { il = true; cv = true; cond = 14; ti = false } ∷ mrc 0x03
    ∷ mrrc 0x04 ∷ mrc 0x05
    ∷ Record.Ldc record { il = true; cv = true; cond = 14; imm8 = 0; rn = 0; offset = true; am = 0; direction = true }
    ∷ Record.Simd record { il = true; cv = true; cond = 14; ta = true; coproc = 0b1010 } ∷ mrc 0x08 ∷ mrrc 0x0C
    ∷ Record.Plain record { class = 0x0E; il = true }
    ∷ Record.Call record { class = 0x11; il = true; imm16 = 0 } ∷ Record.Call record { class = 0x12; il = true; imm16 = 1 }
    ∷ Record.Smc record { il = true; cv = false; cond = 0; ccknownpass = false }
    ∷ Record.InstructionAbort record { il = true; fnv = false; ea = false; s1ptw = false; code = 5 }
    ∷ Record.Plain record { class = 0x22; il = true }
    ∷ Record.DataAbort
    record {
      il = true;
      isv = true;
      sas = 2;
      sse = false;
      srt = 3;
      ar = false;
      aet = 0;
      ea = false;
      cm = false;
      s1ptw = false;
      wnr = true;
      code = 5;
    }
    ∷ []

-- one for each class of the build
pub every_class : classes_of samples ≡ classes
unfolding samples
every_class = refl

-- and in every edition
pub every_edition : AllHave editions has samples
unfolding samples lawful has all_masks
every_edition = all_have editions has samples tt
