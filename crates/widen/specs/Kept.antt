-- The fields that both forms have and that are no registers, in the order of the word: what the change keeps. An UNKNOWN IL counts as 1,
-- and FnV of a short data abort is bits 11:10.
use Rattle.std.specs.Prelude.{ℕ, ◌||◌, List, [], ◌∷◌, eqb}
use Rattle.bits.specs.Field.{digit}
use Rattle.record.specs.declared.kinds.Record.{Record as Long}
use Rattle.short_record.specs.declared.kinds.Record.{Record as Short}
use Rattle.short_rule.specs.Il.{il_unknown}

abbrev pub short_kept : Short → List ℕ
short_kept (Short.Plain r) = r.class ∷ digit (r.il || il_unknown r.class) ∷ []
short_kept (Short.Wfx r) = digit r.il ∷ digit r.cv ∷ r.cond ∷ digit r.ti ∷ []
short_kept (Short.Mcr r) =
    r.class ∷ digit r.il ∷ digit r.cv ∷ r.cond ∷ r.opc2 ∷ r.opc1 ∷ r.crn ∷ r.crm ∷ digit r.direction ∷ []
short_kept (Short.Mcrr r) = r.class ∷ digit r.il ∷ digit r.cv ∷ r.cond ∷ r.opc1 ∷ r.crm ∷ digit r.direction ∷ []
short_kept (Short.Ldc r) =
    digit r.il ∷ digit r.cv ∷ r.cond ∷ r.imm8 ∷ digit r.offset ∷ r.am ∷ digit r.direction ∷ []
short_kept (Short.Simd r) = digit r.il ∷ digit r.cv ∷ r.cond ∷ []
short_kept (Short.Call r) = r.class ∷ digit r.il ∷ r.imm16 ∷ []
short_kept (Short.Smc r) = digit r.il ∷ digit r.cv ∷ r.cond ∷ digit r.ccknownpass ∷ []
short_kept (Short.InstructionAbort r) = digit r.il ∷ digit r.fnv ∷ digit r.ea ∷ digit r.s1ptw ∷ r.code ∷ []
short_kept (Short.DataAbort r) =
    digit r.il ∷ digit r.isv ∷ r.sas ∷ digit r.sse ∷ digit r.ar ∷ digit (eqb r.aet 1) ∷ digit r.ea ∷ digit r.cm
    ∷ digit r.s1ptw
    ∷ digit r.wnr ∷ r.code ∷ []

abbrev pub long_kept : Long → List ℕ
long_kept (Long.Plain r) = r.class ∷ digit r.il ∷ []
long_kept (Long.Wfx r) = digit r.il ∷ digit r.cv ∷ r.cond ∷ digit r.ti ∷ []
long_kept (Long.Mcr r) =
    r.class ∷ digit r.il ∷ digit r.cv ∷ r.cond ∷ r.opc2 ∷ r.opc1 ∷ r.crn ∷ r.crm ∷ digit r.direction ∷ []
long_kept (Long.Mcrr r) = r.class ∷ digit r.il ∷ digit r.cv ∷ r.cond ∷ r.opc1 ∷ r.crm ∷ digit r.direction ∷ []
long_kept (Long.Ldc r) =
    digit r.il ∷ digit r.cv ∷ r.cond ∷ r.imm8 ∷ digit r.offset ∷ r.am ∷ digit r.direction ∷ []
long_kept (Long.Simd r) = digit r.il ∷ digit r.cv ∷ r.cond ∷ []
long_kept (Long.Call r) = r.class ∷ digit r.il ∷ r.imm16 ∷ []
long_kept (Long.Smc r) = digit r.il ∷ digit r.cv ∷ r.cond ∷ digit r.ccknownpass ∷ []
long_kept (Long.InstructionAbort r) = digit r.il ∷ digit r.fnv ∷ digit r.ea ∷ digit r.s1ptw ∷ r.code ∷ []
long_kept (Long.DataAbort r) =
    digit r.il ∷ digit r.isv ∷ r.sas ∷ digit r.sse ∷ digit r.ar ∷ digit r.fnv ∷ digit r.ea ∷ digit r.cm
    ∷ digit r.s1ptw
    ∷ digit r.wnr ∷ r.code ∷ []
long_kept (Long.Debug r) = []
long_kept (Long.Step r) = []
long_kept (Long.Watchpoint r) = []
long_kept (Long.SError r) = []
long_kept (Long.System r) = []
