-- The exception classes of the build (01, 'What the build covers' and 'Layout of the word'; 02, C-20 and C-23), by the trap's origin and by
-- kind of record.
use Rattle.std.specs.Prelude.{ℕ, Bool, true, false, cond, List, [], ◌∷◌}
use Rattle.bits.specs.Among.{among}
use Rattle.record.specs.Origin.{from_aarch64}
use Rattle.record.specs.declared.origin.Origin.{Origin}
use Rattle.record.specs.declared.kinds.Record.{Record}
use Rattle.record.specs.declared.kinds.Head.{Head}

-- from AArch32 the sixteen classes of 01 and the six of C-20
abbrev pub aarch32_classes : List ℕ
aarch32_classes =
    0x00 ∷ 0x01 ∷ 0x03 ∷ 0x04 ∷ 0x05 ∷ 0x06 ∷ 0x07 ∷ 0x08 ∷ 0x0C ∷ 0x0E ∷ 0x11 ∷ 0x12 ∷ 0x13 ∷ 0x20 ∷ 0x22 ∷ 0x24
    ∷ 0x2F ∷ 0x30 ∷ 0x32 ∷ 0x34 ∷ 0x38 ∷ 0x3A ∷ []

-- from AArch64 eleven of these, and the four of C-23: 0x03 to 0x06, 0x08, 0x0C, 0x11 to 0x13, 0x38 and 0x3A are refused there
abbrev pub aarch64_classes : List ℕ
aarch64_classes =
    0x00 ∷ 0x01 ∷ 0x07 ∷ 0x0E ∷ 0x15 ∷ 0x16 ∷ 0x17 ∷ 0x18 ∷ 0x20 ∷ 0x22 ∷ 0x24 ∷ 0x2F ∷ 0x30 ∷ 0x32 ∷ 0x34 ∷ []

-- every other class is refused
abbrev pub classes : Origin → List ℕ
classes o = cond (from_aarch64 o) aarch64_classes aarch32_classes

abbrev pub is_class : Origin → ℕ → Bool
is_class o c = among (classes o) c

-- the kinds with several classes
abbrev pub plain_classes : List ℕ
plain_classes = 0x00 ∷ 0x0E ∷ 0x22 ∷ []

abbrev pub mcr_classes : List ℕ
mcr_classes = 0x03 ∷ 0x05 ∷ 0x08 ∷ []

abbrev pub mcrr_classes : List ℕ
mcrr_classes = 0x04 ∷ 0x0C ∷ []

abbrev pub call_classes : List ℕ
call_classes = 0x11 ∷ 0x12 ∷ 0x15 ∷ 0x16 ∷ 0x17 ∷ 0x38 ∷ []

abbrev pub debug_classes : List ℕ
debug_classes = 0x30 ∷ 0x3A ∷ []

abbrev pub without_isv : ℕ → Bool → Bool → Head
without_isv class own il = record { class = class; own = own; il = il; isv = false }

-- a record's class, whether its kind has that class, IL, and a data abort's ISV, which IL hangs on
abbrev pub head_of : Record → Head
head_of (Record.Plain r) = without_isv r.class (among plain_classes r.class) r.il
head_of (Record.Wfx r) = without_isv 0x01 true r.il
head_of (Record.Mcr r) = without_isv r.class (among mcr_classes r.class) r.il
head_of (Record.Mcrr r) = without_isv r.class (among mcrr_classes r.class) r.il
head_of (Record.Ldc r) = without_isv 0x06 true r.il
head_of (Record.Simd r) = without_isv 0x07 true r.il
head_of (Record.Call r) = without_isv r.class (among call_classes r.class) r.il
head_of (Record.Smc r) = without_isv 0x13 true r.il
head_of (Record.InstructionAbort r) = without_isv 0x20 true r.il
head_of (Record.DataAbort r) = record { class = 0x24; own = true; il = r.il; isv = r.isv }
head_of (Record.Debug r) = without_isv r.class (among debug_classes r.class) r.il
head_of (Record.Step r) = without_isv 0x32 true r.il
head_of (Record.Watchpoint r) = without_isv 0x34 true r.il
head_of (Record.SError r) = without_isv 0x2F true r.il
head_of (Record.System r) = without_isv 0x18 true r.il
