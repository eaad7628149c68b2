-- The transfers (02, C-18), each with its own bits. All stand under a condition, bits 31:28, which is not 1111.
--
--     LDR, STR, LDRB, STRB         27:25 is 010 with an immediate or a literal, 011 with a register; B is bit 22, L is bit 20
--     LDRH, STRH, LDRSB, LDRSH,
--     LDRD, STRD                   27:25 is 000, bits 7 and 4 are 1; bit 22 is 1 with an immediate or a literal, 0 with a register;
--                                  bits 6 and 5 and L, bit 20, say which
--     LDM, STM                     27:25 is 100, bit 22 (the manual's S) is 0; L is bit 20
use Rattle.std.specs.Prelude.{Bool, true, false}
use Rattle.a32_fields.specs.declared.kinds.Transfer.{Transfer}
use Rattle.a32_fields.specs.declared.kinds.Transfer.TheVariants.{Ldr, Str, Ldrb, Strb, Ldrh, Strh, Ldrsb, Ldrsh, Ldrd, Strd}
use Rattle.a32_fields.specs.declared.kinds.Code.{Code}
use Rattle.a32_fields.specs.declared.kinds.Code.TheVariants.{Word, Extra}

-- B and L; or bits 6 and 5, and L
abbrev pub code_of : Transfer → Code
code_of Ldr = Word false true
code_of Str = Word false false
code_of Ldrb = Word true true
code_of Strb = Word true false
code_of Ldrh = Extra false true true
code_of Strh = Extra false true false
code_of Ldrsb = Extra true false true
code_of Ldrsh = Extra true true true
code_of Ldrd = Extra true false false
code_of Strd = Extra true true false

-- memory is read: a literal form is there
abbrev pub loads : Transfer → Bool
loads Ldr = true
loads Str = false
loads Ldrb = true
loads Strb = false
loads Ldrh = true
loads Strh = false
loads Ldrsb = true
loads Ldrsh = true
loads Ldrd = true
loads Strd = false

-- two registers: Rt and the one after it
abbrev pub dual : Transfer → Bool
dual Ldr = false
dual Str = false
dual Ldrb = false
dual Strb = false
dual Ldrh = false
dual Strh = false
dual Ldrsb = false
dual Ldrsh = false
dual Ldrd = true
dual Strd = true
