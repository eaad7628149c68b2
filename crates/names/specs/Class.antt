-- The exception classes, EC, of the build by their numbers: of a trap from AArch32 by source 001, of the short form by source 004.
use Rattle.std.specs.Prelude.{List, [], ◌∷◌}
use Rattle.names.specs.Name.{Entry, means}

-- EC of ESR_EL2
abbrev pub classes : List Entry
classes =
    means 0x00 "Unknown reason"
    ∷ means 0x01 "Trapped WFI or WFE instruction execution"
    ∷ means 0x03 "Trapped MCR or MRC access with coproc 0b1111"
    ∷ means 0x04 "Trapped MCRR or MRRC access with coproc 0b1111"
    ∷ means 0x05 "Trapped MCR or MRC access with coproc 0b1110"
    ∷ means 0x06 "Trapped LDC or STC access"
    ∷ means 0x07 "Trapped access to Advanced SIMD or floating-point functionality"
    ∷ means 0x08 "Trapped VMRS access, from ID group trap"
    ∷ means 0x0C "Trapped MRRC access with coproc 0b1110"
    ∷ means 0x0E "Illegal Execution state"
    ∷ means 0x11 "SVC instruction execution in AArch32 state"
    ∷ means 0x12 "HVC instruction execution in AArch32 state"
    ∷ means 0x13 "SMC instruction execution in AArch32 state"
    ∷ means 0x20 "Instruction Abort from a lower Exception level"
    ∷ means 0x22 "PC alignment fault exception"
    ∷ means 0x24 "Data Abort from a lower Exception level"
    ∷ means 0x2F "SError interrupt"
    ∷ means 0x30 "Breakpoint exception from a lower Exception level"
    ∷ means 0x32 "Software Step exception from a lower Exception level"
    ∷ means 0x34 "Watchpoint exception from a lower Exception level"
    ∷ means 0x38 "BKPT instruction execution in AArch32 state"
    ∷ means 0x3A "Vector Catch exception from AArch32 state"
    ∷ []

-- EC of HSR
abbrev pub short_classes : List Entry
short_classes =
    means 0x00 "Unknown reason"
    ∷ means 0x01 "Trapped WFI or WFE instruction execution"
    ∷ means 0x03 "Trapped MCR or MRC access with coproc 0b1111"
    ∷ means 0x04 "Trapped MCRR or MRRC access with coproc 0b1111"
    ∷ means 0x05 "Trapped MCR or MRC access with coproc 0b1110"
    ∷ means 0x06 "Trapped LDC or STC access"
    ∷ means 0x07 "Access to Advanced SIMD or floating-point functionality trapped by a HCPTR.{TASE, TCP10} control"
    ∷ means 0x08 "Trapped VMRS access, from ID group trap"
    ∷ means 0x0C "Trapped MRRC access with coproc 0b1110"
    ∷ means 0x0E "Illegal exception return to AArch32 state"
    ∷ means 0x11 "Exception on SVC instruction execution in AArch32 state routed to EL2"
    ∷ means 0x12 "HVC instruction execution in AArch32 state"
    ∷ means 0x13 "Trapped execution of SMC instruction in AArch32 state"
    ∷ means 0x20 "Prefetch Abort from a lower Exception level"
    ∷ means 0x22 "PC alignment fault exception"
    ∷ means 0x24 "Data Abort from a lower Exception level"
    ∷ []
