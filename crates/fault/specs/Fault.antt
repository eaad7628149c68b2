-- The words of DFSR and IFSR (01, 'Guest state and the five injections', the table of faults; 02, C-21, DFSR's domain).
use Rattle.std.specs.Prelude.{ℕ, ◌+◌, ◌*◌, ◌^◌, Bool, true, false, cond, not, ◌&&◌, eqb, Option, Some, None, option_map}
use Rattle.fault.specs.declared.Fault.{Fault}
use Rattle.fault.specs.declared.Fault.TheVariants.{External, Translation, AccessFlag, Permission, Alignment}
use Rattle.fault.specs.declared.Row.{Row}
use Rattle.bits.specs.Field.{field_of, bit_of}

-- the code of a level: those of levels 1 and 2, and what stands at level 3; no other level has one
unfoldable pub by_level : ℕ → ℕ → ℕ → Option ℕ → Option ℕ
by_level level first second third =
    cond (eqb level 1) (Some first) (cond (eqb level 2) (Some second) (cond (eqb level 3) third None))

-- the row of a fault that has levels: FS of levels 1 and 2 in the short format, which has no level 3, STATUS of levels 1, 2 and 3 in the
-- long, and whether a DFSR of the short format has the domain at level 2
abbrev pub levelled : ℕ → ℕ → ℕ → ℕ → ℕ → ℕ → Bool → Row
levelled l s1 s2 l1 l2 l3 domain =
    record { short = by_level l s1 s2 None; long = by_level l l1 l2 (Some l3); domain = domain && eqb l 2 }

-- the table; "a level 2 translation or access flag fault" has the domain
abbrev pub fault_row : Fault → Row
fault_row External = record { short = Some 0b01000; long = Some 0b010000; domain = false }
fault_row (Translation l) = levelled l 0b00101 0b00111 0b000101 0b000110 0b000111 true
fault_row (AccessFlag l) = levelled l 0b00011 0b00110 0b001001 0b001010 0b001011 true
fault_row (Permission l) = levelled l 0b01101 0b01111 0b001101 0b001110 0b001111 false
fault_row Alignment = record { short = Some 0b00001; long = Some 0b100001; domain = false }

-- an asynchronous external abort, which no injection carries (02, C-19: DFSR 0x406 short or 0x211 long)
abbrev pub asynchronous_row : Row
asynchronous_row = record { short = Some 0b10110; long = Some 0b010001; domain = false }

-- TTBCR bit 31 chooses the long format
abbrev pub is_long : ℕ → Bool
is_long ttbcr = bit_of ttbcr 31

abbrev pub column : Row → Bool → Option ℕ
column row true = row.long
column row false = row.short

-- long: bit 9 set, STATUS in bits 5:0; short: FS 3:0 in bits 3:0, FS bit 4 in bit 10
abbrev pub status_word : ℕ → Bool → ℕ
status_word status true = 2 ^ 9 + field_of status 5 0
status_word fs false = field_of fs 4 4 * 2 ^ 10 + field_of fs 3 0

-- the word of a code by the row of its fault
unfoldable pub status_of : Row → ℕ → Option ℕ
status_of row ttbcr = option_map (λ c. status_word c (is_long ttbcr)) (column row (is_long ttbcr))

-- an alignment fault is for data only
abbrev pub is_alignment : Fault → Bool
is_alignment External = false
is_alignment (Translation l) = false
is_alignment (AccessFlag l) = false
is_alignment (Permission l) = false
is_alignment Alignment = true

-- IFSR of a prefetch abort: the fault, and TTBCR
abbrev pub ifsr_word : Fault → ℕ → Option ℕ
ifsr_word f ttbcr = cond (is_alignment f) None (status_of (fault_row f) ttbcr)

-- a write sets bit 11
abbrev pub write_bit : Bool → ℕ
write_bit true = 2 ^ 11
write_bit false = 0

-- what the domain adds, by the row and the format (02, C-21): its four bits, "written to bits 7:4 in those two cases and 0 otherwise"
abbrev pub domain_in : Row → Bool → ℕ → ℕ
domain_in row long domain = cond (row.domain && not long) (field_of domain 3 0 * 2 ^ 4) 0

-- DFSR: the row of a fault, whether the access was a write, the domain, and TTBCR
unfoldable pub dfsr_of : Row → Bool → ℕ → ℕ → Option ℕ
dfsr_of row write domain ttbcr = option_map (λ w. write_bit write + (domain_in row (is_long ttbcr) domain + w)) (status_of row ttbcr)

-- DFSR of a data abort
abbrev pub dfsr_word : Fault → Bool → ℕ → ℕ → Option ℕ
dfsr_word f write domain ttbcr = dfsr_of (fault_row f) write domain ttbcr

-- a fault that can be written in its register, in the format that TTBCR chooses
abbrev pub is_code : Option ℕ → Bool
is_code (Some w) = true
is_code None = false

-- a fault status register's word, where there is one
abbrev pub code_in : Option ℕ → ℕ
code_in (Some w) = w
code_in None = 0

-- DFSR of a virtual abort, which is asynchronous and no write
abbrev pub asynchronous_dfsr : ℕ → ℕ → ℕ
asynchronous_dfsr domain ttbcr = code_in (dfsr_of asynchronous_row false domain ttbcr)
