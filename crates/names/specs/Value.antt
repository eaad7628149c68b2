-- What the values of the other fields mean (source 001; TA and the short form's AET and FnV by source 004; COND by the manual's table of
-- condition codes, and registers by its mapping). A value that is missing has no meaning in the build.
use Rattle.std.specs.Prelude.{ℕ, zero, suc, List, [], ◌∷◌}
use Rattle.names.specs.Name.{Entry, means}

-- IL
abbrev pub lengths : List Entry
lengths =
    means 0 "16-bit instruction trapped"
    ∷ means 1 "32-bit instruction trapped"
    ∷ []

-- a field that is UNKNOWN, whatever its value: one of at most five bits
abbrev alike : ℕ → List Entry
alike zero = []
alike (suc n) = means n "UNKNOWN" ∷ alike n

abbrev pub unknown : List Entry
unknown = alike 32

-- CV
abbrev pub validity : List Entry
validity =
    means 0 "The COND field is not valid"
    ∷ means 1 "The COND field is valid"
    ∷ []

-- COND, where CV is 1
abbrev pub conditions : List Entry
conditions =
    means 0 "EQ"
    ∷ means 1 "NE"
    ∷ means 2 "CS"
    ∷ means 3 "CC"
    ∷ means 4 "MI"
    ∷ means 5 "PL"
    ∷ means 6 "VS"
    ∷ means 7 "VC"
    ∷ means 8 "HI"
    ∷ means 9 "LS"
    ∷ means 10 "GE"
    ∷ means 11 "LT"
    ∷ means 12 "GT"
    ∷ means 13 "LE"
    ∷ means 14 "AL"
    ∷ []

-- Rt, Rt2, Rn and SRT of the long form, which are the AArch64 view of an AArch32 register (the manual's mapping of the general-purpose
-- registers between the Execution states)
abbrev pub registers : List Entry
registers =
    means 0 "R0"
    ∷ means 1 "R1"
    ∷ means 2 "R2"
    ∷ means 3 "R3"
    ∷ means 4 "R4"
    ∷ means 5 "R5"
    ∷ means 6 "R6"
    ∷ means 7 "R7"
    ∷ means 8 "R8_usr"
    ∷ means 9 "R9_usr"
    ∷ means 10 "R10_usr"
    ∷ means 11 "R11_usr"
    ∷ means 12 "R12_usr"
    ∷ means 13 "SP_usr"
    ∷ means 14 "LR_usr"
    ∷ means 15 "SP_hyp"
    ∷ means 16 "LR_irq"
    ∷ means 17 "SP_irq"
    ∷ means 18 "LR_svc"
    ∷ means 19 "SP_svc"
    ∷ means 20 "LR_abt"
    ∷ means 21 "SP_abt"
    ∷ means 22 "LR_und"
    ∷ means 23 "SP_und"
    ∷ means 24 "R8_fiq"
    ∷ means 25 "R9_fiq"
    ∷ means 26 "R10_fiq"
    ∷ means 27 "R11_fiq"
    ∷ means 28 "R12_fiq"
    ∷ means 29 "SP_fiq"
    ∷ means 30 "LR_fiq"
    ∷ means 31 "register 15 of the instruction"
    ∷ []

-- TI
abbrev pub waits : List Entry
waits =
    means 0 "WFI trapped"
    ∷ means 1 "WFE trapped"
    ∷ []

-- Direction of an MCR or MRC
abbrev pub mcr_directions : List Entry
mcr_directions =
    means 0 "Write to System register space, MCR instruction"
    ∷ means 1 "Read from System register space, MRC or VMRS instruction"
    ∷ []

-- Direction of an MCRR or MRRC
abbrev pub mcrr_directions : List Entry
mcrr_directions =
    means 0 "Write to System register space, MCRR instruction"
    ∷ means 1 "Read from System register space, MRRC instruction"
    ∷ []

-- Offset
abbrev pub offsets : List Entry
offsets =
    means 0 "Subtract offset"
    ∷ means 1 "Add offset"
    ∷ []

-- AM
abbrev pub addressing_modes : List Entry
addressing_modes =
    means 0 "Immediate unindexed"
    ∷ means 1 "Immediate post-indexed"
    ∷ means 2 "Immediate offset"
    ∷ means 3 "Immediate pre-indexed"
    ∷ means 4 "Literal unindexed"
    ∷ means 6 "Literal offset"
    ∷ []

-- Direction of an LDC or STC
abbrev pub ldc_directions : List Entry
ldc_directions =
    means 0 "Write to memory, STC instruction"
    ∷ means 1 "Read from memory, LDC instruction"
    ∷ []

-- CCKNOWNPASS
abbrev pub passes : List Entry
passes =
    means 0 "The instruction was unconditional, or passed its condition code check"
    ∷ means 1 "The instruction was conditional, and might have failed its condition code check"
    ∷ []

-- SET, where the code is 0x10
abbrev pub error_types : List Entry
error_types =
    means 0 "Recoverable state (UER), where the board has RAS"
    ∷ means 2 "Uncontainable (UC)"
    ∷ means 3 "Restartable state (UEO)"
    ∷ []

-- FnV, where the code is 0x10: of the long form; of the short form's instruction aborts; of its data aborts
abbrev pub far_validity : List Entry
far_validity =
    means 0 "FAR is valid"
    ∷ means 1 "FAR is not valid, and holds an UNKNOWN value"
    ∷ []

abbrev pub hifar_validity : List Entry
hifar_validity =
    means 0 "HIFAR is valid"
    ∷ means 1 "HIFAR is not valid, and holds an UNKNOWN value"
    ∷ []

abbrev pub hdfar_validity : List Entry
hdfar_validity =
    means 0 "HDFAR is valid"
    ∷ means 1 "HDFAR is not valid, and holds an UNKNOWN value"
    ∷ []

-- EA
abbrev pub external_types : List Entry
external_types =
    means 1 "IMPLEMENTATION DEFINED classification of External aborts"
    ∷ []

-- S1PTW, where the code is an MMU fault
abbrev pub walks : List Entry
walks =
    means 0 "Fault not on a stage 2 translation for a stage 1 translation table walk"
    ∷ means 1 "Fault on the stage 2 translation of an access for a stage 1 translation table walk"
    ∷ []

-- ISV of a Data Abort
abbrev pub syndrome_validity : List Entry
syndrome_validity =
    means 0 "No valid instruction syndrome"
    ∷ means 1 "ISS[23:14] hold a valid instruction syndrome"
    ∷ []

-- SAS, where ISV is 1: no access of an AArch32 guest that is described has eight bytes, or a register of 64 bits (SF)
abbrev pub sizes : List Entry
sizes =
    means 0 "Byte"
    ∷ means 1 "Halfword"
    ∷ means 2 "Word"
    ∷ []

-- SSE, where ISV is 1 and the instruction loads
abbrev pub extensions : List Entry
extensions =
    means 0 "Sign-extension not required"
    ∷ means 1 "Data item must be sign-extended"
    ∷ []

-- SF, where ISV is 1
abbrev pub widths : List Entry
widths =
    means 0 "Instruction loads/stores a 32-bit wide register"
    ∷ []

-- AR, where ISV is 1
abbrev pub semantics : List Entry
semantics =
    means 0 "Instruction did not have acquire/release semantics"
    ∷ means 1 "Instruction did have acquire/release semantics"
    ∷ []

-- CM
abbrev pub maintenance : List Entry
maintenance =
    means 0 "Not from a cache maintenance or address translation instruction"
    ∷ means 1 "From a cache maintenance or address translation instruction"
    ∷ []

-- WnR, where CM is 0
abbrev pub accesses : List Entry
accesses =
    means 0 "Read from a memory location"
    ∷ means 1 "Write to a memory location"
    ∷ []

-- ISV of a Software Step
abbrev pub step_validity : List Entry
step_validity =
    means 0 "EX bit is RES0"
    ∷ means 1 "EX bit is valid"
    ∷ []

-- EX, where ISV is 1
abbrev pub exclusives : List Entry
exclusives =
    means 0 "An instruction other than a Load-Exclusive instruction was stepped"
    ∷ means 1 "A Load-Exclusive instruction was stepped"
    ∷ []

-- AET, where DFSC is 0x11
abbrev pub asynchronous_types : List Entry
asynchronous_types =
    means 0 "Uncontainable (UC)"
    ∷ means 1 "Unrecoverable state (UEU)"
    ∷ means 2 "Restartable state (UEO)"
    ∷ means 3 "Recoverable state (UER)"
    ∷ means 6 "Corrected (CE)"
    ∷ []

-- TA
abbrev pub simd_uses : List Entry
simd_uses =
    means 0 "Exception was not caused by trapped use of Advanced SIMD functionality"
    ∷ means 1 "Exception was caused by trapped use of Advanced SIMD functionality"
    ∷ []

-- AET of the short form, with DFSC 0x11
abbrev pub short_types : List Entry
short_types =
    means 0 "Uncontainable error (UC) or uncategorized, where the board has RAS"
    ∷ means 1 "Unrecoverable error (UEU)"
    ∷ means 2 "Restartable error (UEO) or Corrected error (CE)"
    ∷ means 3 "Recoverable error (UER)"
    ∷ []

-- why no edition has a word, by the number of the rule that it breaks (crates reason and short_reason): 11, 15, 16, 18 and 20 are of the
-- long form alone, 21 to 25 of the short form alone
abbrev pub reasons : List Entry
reasons =
    means 1 "a bit is set that belongs to no field that the build has in this class"
    ∷ means 2 "CV 24 is 1 and COND 23:20 is 0b1111"
    ∷ means 3 "Direction 0 is 0, and this class only reads"
    ∷ means 4 "AM 3:1 is reserved, or is a literal form and Direction 0 is 0"
    ∷ means 5 "IL 25 is 0 and the immediate 15:0 is above 255"
    ∷ means 6 "CCKNOWNPASS 19 is 0, and CV 24 or COND 23:20 is not"
    ∷ means 7 "FnV 10 is 1 and the fault code 5:0 is not 0x10"
    ∷ means 8 "EA 9 is 1 and the fault code 5:0 is not among 0x10 to 0x1f"
    ∷ means 9 "S1PTW 7 is 1 and the fault code 5:0 is not among 0x00 to 0x0f, 0x29 and 0x2b"
    ∷ means 10 "ISV 24 is 0 and bits 23:14 are not"
    ∷ means 11 "ISV 24 is 1, and the access is none of an AArch32 guest: SF 15 is 1, SAS 23:22 is 3, or SRT 20:16 is 15 or 31"
    ∷ means 12 "ISV 24 is 1, and CM 8 or S1PTW 7 is 1"
    ∷ means 13 "SSE 21 is 1, and SAS 23:22 is above 1 or WnR 6 is 1"
    ∷ means 14 "CM 8 is 1 and WnR 6 is 0"
    ∷ means 15 "EX 6 is 1 and ISV 24 is 0"
    ∷ means 16 "DFSC 5:0 is neither 0 with AET 12:10 and EA 9 both 0, nor 0x11 with an AET of 0 to 3 or 6"
    ∷ means 17 "no edition has the fault code 5:0 in this class"
    ∷ means 18 "SET 12:11 is neither 0 nor, with the fault code 0x10, 2 or 3"
    ∷ means 19 "ISV 24 is 1 and the fault code 5:0 is not among 0x00 to 0x0f, 0x13 to 0x17, 0x29 and 0x2b"
    ∷ means 20 "the fault code 5:0 is not 0x22, a debug exception"
    ∷ means 21 "TA 5 is 1 and coproc 3:0 is not 0b1010, or TA 5 is 0 and coproc 3:0 is not 0"
    ∷ means 22 "CM 8 is 1 in an SError interrupt"
    ∷ means 23 "bits 11:10 are not 0, and the fault code 5:0 is neither 0x11, nor 0x10 with bits 11:10 equal to 1"
    ∷ means 24 "ISV 24 is 1, and SAS 23:22 is 3 or SRT 19:16 is 15"
    ∷ means 25 "AET 11:10 is not 0, which needs RAS, and WnR 6 is 1, which RAS makes 0"
    ∷ []

-- the injections of 01, in the order of its table
abbrev pub injections : List Entry
injections =
    means 0 "Undefined Instruction, PC at the instruction"
    ∷ means 1 "Undefined Instruction, PC after the instruction"
    ∷ means 2 "Supervisor Call"
    ∷ means 3 "Prefetch Abort"
    ∷ means 4 "Data Abort"
    ∷ []
