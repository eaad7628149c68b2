-- A short record's words: the number of its kind, its fields in the order of its struct, and zeros up to sixteen.
use Rattle.std.specs.Prelude.{ℕ, List, ◌∷◌}
use Rattle.short_record.specs.declared.kinds.Mcr.{Mcr}
use Rattle.short_record.specs.declared.kinds.Mcrr.{Mcrr}
use Rattle.short_record.specs.declared.kinds.Ldc.{Ldc}
use Rattle.short_record.specs.declared.kinds.Simd.{Simd}
use Rattle.short_record.specs.declared.kinds.InstructionAbort.{InstructionAbort}
use Rattle.short_record.specs.declared.kinds.DataAbort.{DataAbort}
use Rattle.short_record.specs.declared.kinds.Record.{Record}
use Rattle.record_words.specs.Words.{flag, zeros, plain_words, wfx_words, call_words, smc_words}

abbrev pub mcr_words : Mcr → List ℕ
mcr_words r =
    2 ∷ r.class ∷ flag r.il ∷ flag r.cv ∷ r.cond ∷ r.opc2 ∷ r.opc1 ∷ r.crn ∷ r.rt ∷ r.crm ∷ flag r.direction ∷ zeros 5

abbrev pub mcrr_words : Mcrr → List ℕ
mcrr_words r = 3 ∷ r.class ∷ flag r.il ∷ flag r.cv ∷ r.cond ∷ r.opc1 ∷ r.rt2 ∷ r.rt ∷ r.crm ∷ flag r.direction ∷ zeros 6

abbrev pub ldc_words : Ldc → List ℕ
ldc_words r = 4 ∷ flag r.il ∷ flag r.cv ∷ r.cond ∷ r.imm8 ∷ r.rn ∷ flag r.offset ∷ r.am ∷ flag r.direction ∷ zeros 7

abbrev pub simd_words : Simd → List ℕ
simd_words r = 5 ∷ flag r.il ∷ flag r.cv ∷ r.cond ∷ flag r.ta ∷ r.coproc ∷ zeros 10

abbrev pub instruction_abort_words : InstructionAbort → List ℕ
instruction_abort_words r = 8 ∷ flag r.il ∷ flag r.fnv ∷ flag r.ea ∷ flag r.s1ptw ∷ r.code ∷ zeros 10

abbrev pub data_abort_words : DataAbort → List ℕ
data_abort_words r =
    9 ∷ flag r.il ∷ flag r.isv ∷ r.sas ∷ flag r.sse ∷ r.srt ∷ flag r.ar ∷ r.aet ∷ flag r.ea ∷ flag r.cm
    ∷ flag r.s1ptw ∷ flag r.wnr ∷ r.code ∷ zeros 3

abbrev pub words_of : Record → List ℕ
words_of (Record.Plain r) = plain_words r
words_of (Record.Wfx r) = wfx_words r
words_of (Record.Mcr r) = mcr_words r
words_of (Record.Mcrr r) = mcrr_words r
words_of (Record.Ldc r) = ldc_words r
words_of (Record.Simd r) = simd_words r
words_of (Record.Call r) = call_words r
words_of (Record.Smc r) = smc_words r
words_of (Record.InstructionAbort r) = instruction_abort_words r
words_of (Record.DataAbort r) = data_abort_words r
