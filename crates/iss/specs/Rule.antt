-- Rules of fields of the ISS that both forms have (01, 'Layout of the word'; 02, C-13). What they need of the class or the edition is
-- handed to them.
use Rattle.std.specs.Prelude.{ℕ, Bool, not, ◌&&◌, ◌||◌, leb, ltb, eqb}
use Rattle.bits.specs.Test.{implies, between}

-- CV 1 with COND 1111 is refused
abbrev pub condition_rule : Bool → ℕ → Bool
condition_rule cv cond = not (cv && eqb cond 0b1111)

-- LDC and STC: AM 101 and 111 are refused; 100 and 110 only with direction 1
abbrev pub addressing_rule : ℕ → Bool → Bool
addressing_rule am direction =
    not (eqb am 0b101) && not (eqb am 0b111) && implies (eqb am 0b100 || eqb am 0b110) direction

-- SMC: when CCKNOWNPASS is 0, CV and COND must be 0
abbrev pub passed_rule : Bool → Bool → ℕ → Bool
passed_rule ccknownpass cv cond = ccknownpass || not cv && eqb cond 0

-- codes 0x00..0x0F, 0x29, 0x2B: address size, translation, access flag and permission faults
abbrev pub mmu_fault : ℕ → Bool
mmu_fault code = leb code 0x0F || eqb code 0x29 || eqb code 0x2B

-- EA only with codes 0x10..0x1F, S1PTW only with an MMU fault
abbrev pub external_rule : Bool → ℕ → Bool
external_rule ea code = implies ea (between 0x10 0x1F code)

abbrev pub walk_rule : Bool → ℕ → Bool
walk_rule s1ptw code = implies s1ptw (mmu_fault code)

-- an abort with an FnV field: FnV only with code 0x10, then EA and S1PTW
abbrev pub abort_rule : Bool → Bool → Bool → ℕ → Bool
abort_rule fnv ea s1ptw code = implies fnv (eqb code 0x10) && external_rule ea code && walk_rule s1ptw code

-- ISV 1 needs an MMU fault, or without RAS also a code of 0x13..0x17
abbrev pub isv_code : Bool → Bool → ℕ → Bool
isv_code ras isv code = implies isv (mmu_fault code || not ras && between 0x13 0x17 code)

-- SSE 1 needs SAS below 2 and WnR 0
abbrev pub extension_rule : Bool → ℕ → Bool → Bool
extension_rule sse sas wnr = implies sse (ltb sas 2 && not wnr)

-- CM 1 needs WnR 1
abbrev pub maintenance_rule : Bool → Bool → Bool
maintenance_rule cm wnr = implies cm wnr

-- 02, C-13: a VMRS, class 0x08, and an MRRC, class 0x0C, have direction 1
abbrev pub direction_rule : ℕ → Bool → Bool
direction_rule class direction = implies (eqb class 0x08 || eqb class 0x0C) direction

-- 02, C-13 and C-20: IL 0 is an SVC or a BKPT of 16 bits, whose immediate is at most 255
abbrev pub immediate_rule : Bool → ℕ → Bool
immediate_rule il imm16 = il || leb imm16 255
