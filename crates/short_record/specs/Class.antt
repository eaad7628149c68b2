-- The exception classes of the short form (request C-11 of document 02: those of document 01, all of which source 004 has), by kind of
-- record.
use Rattle.std.specs.Prelude.{ℕ, Bool, true, List, [], ◌∷◌}
use Rattle.bits.specs.Among.{among}
use Rattle.record.specs.Class.{plain_classes, mcr_classes, mcrr_classes, without_isv}
use Rattle.record.specs.declared.kinds.Head.{Head}
use Rattle.short_record.specs.declared.kinds.Record.{Record}

-- the sixteen classes; every other class is refused
abbrev pub classes : List ℕ
classes =
    0x00 ∷ 0x01 ∷ 0x03 ∷ 0x04 ∷ 0x05 ∷ 0x06 ∷ 0x07 ∷ 0x08 ∷ 0x0C ∷ 0x0E ∷ 0x11 ∷ 0x12 ∷ 0x13 ∷ 0x20 ∷ 0x22 ∷ 0x24 ∷ []

abbrev pub is_class : ℕ → Bool
is_class c = among classes c

-- of the kinds with several classes the calls have classes of their own; the others have the long form's
abbrev pub call_classes : List ℕ
call_classes = 0x11 ∷ 0x12 ∷ []

-- a record's class, whether its kind has that class, IL, and ISV, which a data abort alone has
abbrev pub head_of : Record → Head
head_of (Record.Plain r) = without_isv r.class (among plain_classes r.class) r.il
head_of (Record.Wfx r) = without_isv 0x01 true r.il
head_of (Record.Mcr r) = without_isv r.class (among mcr_classes r.class) r.il
head_of (Record.Mcrr r) = without_isv r.class (among mcrr_classes r.class) r.il
head_of (Record.Ldc r) = without_isv 0x06 true r.il
head_of (Record.Simd r) = without_isv 0x07 true r.il
head_of (Record.Call r) = without_isv r.class (among call_classes r.class) r.il
head_of (Record.Smc r) = without_isv 0x13 true r.il
head_of (Record.InstructionAbort r) = without_isv 0x20 true r.il
head_of (Record.DataAbort r) = record { class = 0x24; own = true; il = r.il; isv = r.isv }
