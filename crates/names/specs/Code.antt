-- Fault status codes, IFSC and DFSC: of ESR_EL2 by source 001, of HSR by source 004, and those of an SError interrupt.
use Rattle.std.specs.Prelude.{List, [], ◌∷◌}
use Rattle.names.specs.Name.{Entry, means}

-- IFSC and DFSC of ESR_EL2
abbrev pub fault_codes : List Entry
fault_codes =
    means 0x00 "Address size fault, level 0 of translation or translation table base register"
    ∷ means 0x01 "Address size fault, level 1"
    ∷ means 0x02 "Address size fault, level 2"
    ∷ means 0x03 "Address size fault, level 3"
    ∷ means 0x04 "Translation fault, level 0"
    ∷ means 0x05 "Translation fault, level 1"
    ∷ means 0x06 "Translation fault, level 2"
    ∷ means 0x07 "Translation fault, level 3"
    ∷ means 0x08 "Access flag fault, level 0"
    ∷ means 0x09 "Access flag fault, level 1"
    ∷ means 0x0A "Access flag fault, level 2"
    ∷ means 0x0B "Access flag fault, level 3"
    ∷ means 0x0C "Permission fault, level 0"
    ∷ means 0x0D "Permission fault, level 1"
    ∷ means 0x0E "Permission fault, level 2"
    ∷ means 0x0F "Permission fault, level 3"
    ∷ means 0x10 "Synchronous External abort, not on translation table walk or hardware update of translation table"
    ∷ means 0x13 "Synchronous External abort on translation table walk or hardware update of translation table, level -1"
    ∷ means 0x14 "Synchronous External abort on translation table walk or hardware update of translation table, level 0"
    ∷ means 0x15 "Synchronous External abort on translation table walk or hardware update of translation table, level 1"
    ∷ means 0x16 "Synchronous External abort on translation table walk or hardware update of translation table, level 2"
    ∷ means 0x17 "Synchronous External abort on translation table walk or hardware update of translation table, level 3"
    ∷ means 0x18 "Synchronous parity or ECC error on memory access, not on translation table walk"
    ∷ means 0x1B "Synchronous parity or ECC error on memory access on translation table walk or hardware update of translation table, level -1"
    ∷ means 0x1C "Synchronous parity or ECC error on memory access on translation table walk or hardware update of translation table, level 0"
    ∷ means 0x1D "Synchronous parity or ECC error on memory access on translation table walk or hardware update of translation table, level 1"
    ∷ means 0x1E "Synchronous parity or ECC error on memory access on translation table walk or hardware update of translation table, level 2"
    ∷ means 0x1F "Synchronous parity or ECC error on memory access on translation table walk or hardware update of translation table, level 3"
    ∷ means 0x21 "Alignment fault"
    ∷ means 0x22 "Debug exception"
    ∷ means 0x29 "Address size fault, level -1"
    ∷ means 0x2B "Translation fault, level -1"
    ∷ means 0x30 "TLB conflict abort"
    ∷ means 0x31 "Unsupported atomic hardware update fault"
    ∷ means 0x34 "IMPLEMENTATION DEFINED fault (Lockdown)"
    ∷ means 0x35 "IMPLEMENTATION DEFINED fault (Unsupported Exclusive or Atomic access)"
    ∷ []

-- IFSC and DFSC of HSR, which has no level 0 and no level -1
abbrev pub short_codes : List Entry
short_codes =
    means 0x00 "Address size fault, translation table base register"
    ∷ means 0x01 "Address size fault, level 1"
    ∷ means 0x02 "Address size fault, level 2"
    ∷ means 0x03 "Address size fault, level 3"
    ∷ means 0x05 "Translation fault, level 1"
    ∷ means 0x06 "Translation fault, level 2"
    ∷ means 0x07 "Translation fault, level 3"
    ∷ means 0x09 "Access flag fault, level 1"
    ∷ means 0x0A "Access flag fault, level 2"
    ∷ means 0x0B "Access flag fault, level 3"
    ∷ means 0x0D "Permission fault, level 1"
    ∷ means 0x0E "Permission fault, level 2"
    ∷ means 0x0F "Permission fault, level 3"
    ∷ means 0x10 "Synchronous External abort, not on translation table walk"
    ∷ means 0x11 "SError interrupt"
    ∷ means 0x15 "Synchronous External abort, on translation table walk, level 1"
    ∷ means 0x16 "Synchronous External abort, on translation table walk, level 2"
    ∷ means 0x17 "Synchronous External abort, on translation table walk, level 3"
    ∷ means 0x18 "Synchronous parity or ECC error on memory access, not on translation table walk"
    ∷ means 0x19 "SError interrupt from a parity or ECC error on memory access"
    ∷ means 0x1D "Synchronous parity or ECC error on memory access on translation table walk, level 1"
    ∷ means 0x1E "Synchronous parity or ECC error on memory access on translation table walk, level 2"
    ∷ means 0x1F "Synchronous parity or ECC error on memory access on translation table walk, level 3"
    ∷ means 0x21 "Alignment fault"
    ∷ means 0x22 "Debug exception"
    ∷ means 0x30 "TLB conflict abort"
    ∷ means 0x34 "IMPLEMENTATION DEFINED fault (Lockdown)"
    ∷ means 0x35 "IMPLEMENTATION DEFINED fault (Unsupported Exclusive access)"
    ∷ []

-- DFSC of an SError interrupt
abbrev pub error_codes : List Entry
error_codes =
    means 0x00 "Uncategorized error, where the board has RAS"
    ∷ means 0x11 "Asynchronous SError interrupt"
    ∷ []
