-- The rules that go by the trap's origin, as they stood before request C-23 (01, 'Layout of the word' and 'Addresses of an abort'; 02, C-13
-- and C-20). The laws of proofs/AArch32.antt say that from AArch32 what holds now is what held then.
use Rattle.std.specs.Prelude.{ℕ, Bool, true, false, not, ◌&&◌, ◌||◌, List, [], ◌∷◌, ltb, eqb}
use Rattle.bits.specs.Among.{among}
use Rattle.bits.specs.Field.{field_of}
use Rattle.iss.specs.Rule.{extension_rule, maintenance_rule}
use Rattle.bits.specs.Test.{implies}
use Rattle.iss.specs.Il.{il_needed}
use Rattle.record.specs.Class.{plain_classes, mcr_classes, mcrr_classes, debug_classes}
use Rattle.record.specs.declared.kinds.DataAbort.{DataAbort}
use Rattle.record.specs.declared.kinds.Record.{Record}
use Rattle.rule.specs.Il.{il_always}
use Rattle.layout_rule.specs.Rule.{no_syndrome_rule}
use Rattle.registers.specs.declared.Far.{Far}

-- the sixteen classes of 01 and the six of C-20
abbrev pub base_classes : List ℕ
base_classes =
    0x00 ∷ 0x01 ∷ 0x03 ∷ 0x04 ∷ 0x05 ∷ 0x06 ∷ 0x07 ∷ 0x08 ∷ 0x0C ∷ 0x0E ∷ 0x11 ∷ 0x12 ∷ 0x13 ∷ 0x20 ∷ 0x22 ∷ 0x24
    ∷ 0x2F ∷ 0x30 ∷ 0x32 ∷ 0x34 ∷ 0x38 ∷ 0x3A ∷ []

-- a record's kind has its class; the kind of class 0x18 there was not
abbrev pub base_own : Record → Bool
base_own (Record.Plain r) = among plain_classes r.class
base_own (Record.Wfx r) = true
base_own (Record.Mcr r) = among mcr_classes r.class
base_own (Record.Mcrr r) = among mcrr_classes r.class
base_own (Record.Ldc r) = true
base_own (Record.Simd r) = true
base_own (Record.Call r) = among (0x11 ∷ 0x12 ∷ 0x38 ∷ []) r.class
base_own (Record.Smc r) = true
base_own (Record.InstructionAbort r) = true
base_own (Record.DataAbort r) = true
base_own (Record.Debug r) = among debug_classes r.class
base_own (Record.Step r) = true
base_own (Record.Watchpoint r) = true
base_own (Record.SError r) = true
base_own (Record.System r) = false

abbrev pub base_il : ℕ → Bool → Bool → Bool
base_il class isv il = implies (il_needed class isv || among il_always class) il

-- ISV 1 needs SF 0, SAS below 3, SRT neither 15 nor 31, CM 0 and S1PTW 0
abbrev pub base_valid : DataAbort → Bool
base_valid r =
    not r.sf && ltb r.sas 3 && not (eqb r.srt 15) && not (eqb r.srt 31) && not r.cm && not r.s1ptw

abbrev pub base_data : DataAbort → Bool
base_data r =
    ((r.isv || no_syndrome_rule r) && implies r.isv (base_valid r)) && extension_rule r.sse r.sas r.wnr
    && maintenance_rule r.cm r.wnr

-- bits 63:32 of FAR are zero
abbrev pub base_far : Far → Bool
base_far far = eqb (field_of far.0 63 32) 0
