-- The rules that go by the edition (01, 'Layout of the word'; 02, C-20): fault codes, SET, the codes of a valid instruction syndrome, and
-- DFSC of an SError interrupt.
use Rattle.std.specs.Prelude.{ℕ, Bool, not, ◌&&◌, ◌||◌, eqb}
use Rattle.edition.specs.Feature.{ras, lpa2, hafdbs}
use Rattle.iss.specs.Rule.{isv_code}
use Rattle.bits.specs.Test.{between}

-- the rows of the table of fault codes
abbrev pub everywhere : ℕ → Bool
everywhere code =
    between 0x00 0x07 code || between 0x09 0x0B code || between 0x0D 0x0F code || eqb code 0x10 || between 0x14 0x17 code
    || eqb code 0x30

abbrev pub with_lpa2 : ℕ → Bool
with_lpa2 code = eqb code 0x08 || eqb code 0x0C || eqb code 0x13 || eqb code 0x29 || eqb code 0x2B

abbrev pub without_ras : ℕ → Bool
without_ras code = eqb code 0x18 || between 0x1C 0x1F code

abbrev pub data_only_code : ℕ → Bool
data_only_code code = eqb code 0x21 || eqb code 0x34 || eqb code 0x35

-- an edition has a code of an instruction abort, and of a data abort
abbrev pub instruction_code : ℕ → ℕ → Bool
instruction_code e code =
    everywhere code || lpa2 e && with_lpa2 code || not (ras e) && without_ras code || lpa2 e && not (ras e) && eqb code 0x1B
    || hafdbs e && eqb code 0x31

abbrev pub data_code : ℕ → ℕ → Bool
data_code e code = instruction_code e code || data_only_code code

-- SET is 0; with code 0x10, in an edition with RAS, it may be 2 or 3
abbrev pub set_rule : ℕ → ℕ → ℕ → Bool
set_rule e set code = eqb set 0 || ras e && (eqb code 0x10 && (eqb set 2 || eqb set 3))

-- ISV 1 needs an MMU fault, or in editions without RAS also a code of 0x13..0x17
abbrev pub isv_rule : ℕ → Bool → ℕ → Bool
isv_rule e isv code = isv_code (ras e) isv code

-- DFSC of an SError interrupt: 0 in all editions, 0x11 in those with RAS
abbrev pub error_code : ℕ → ℕ → Bool
error_code e code = eqb code 0 || ras e && eqb code 0x11
