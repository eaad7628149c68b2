-- The rules that go by the edition (source 004): its fault code lists, AET and FnV, WnR of an asynchronous abort, and the codes of a valid
-- instruction syndrome.
use Rattle.std.specs.Prelude.{ℕ, Bool, true, not, ◌&&◌, ◌||◌, eqb}
use Rattle.edition.specs.Feature.{ras}
use Rattle.iss.specs.Rule.{isv_code}
use Rattle.bits.specs.Test.{implies, between}
use Rattle.short_record.specs.declared.kinds.Record.{Record}
use Rattle.short_rule.specs.Rule.{asynchronous}

-- the lists 'IFSC' and 'DFSC': the codes of both that RAS leaves alone, and those that it takes away
abbrev pub everywhere : ℕ → Bool
everywhere code =
    between 0x00 0x03 code || between 0x05 0x07 code || between 0x09 0x0B code || between 0x0D 0x0F code || eqb code 0x10
    || between 0x15 0x17 code
    || eqb code 0x22
    || eqb code 0x30

abbrev pub without_ras : ℕ → Bool
without_ras code = eqb code 0x18 || between 0x1D 0x1F code

abbrev pub data_only_code : ℕ → Bool
data_only_code code = eqb code 0x11 || eqb code 0x21 || eqb code 0x34 || eqb code 0x35

-- an edition has a code of an instruction abort, and of a data abort
abbrev pub instruction_code : ℕ → ℕ → Bool
instruction_code e code = everywhere code || not (ras e) && without_ras code

abbrev pub data_code : ℕ → ℕ → Bool
data_code e code = instruction_code e code || data_only_code code || not (ras e) && eqb code 0x19

-- bits 11:10 of a data abort: FnV in bit 10 with code 0x10; AET with code 0x11 in an edition with RAS; otherwise 0
abbrev pub aet_rule : ℕ → ℕ → ℕ → Bool
aet_rule e aet code = (eqb aet 0 || eqb code 0x10 && eqb aet 1) || ras e && eqb code 0x11

-- WnR of an asynchronous abort is UNKNOWN, kept as found, without RAS, and 0 with it
abbrev pub wnr_rule : ℕ → Bool → ℕ → Bool
wnr_rule e wnr code = implies (asynchronous code && wnr) (not (ras e))

abbrev pub edition_rule : ℕ → Record → Bool
edition_rule e (Record.Plain r) = true
edition_rule e (Record.Wfx r) = true
edition_rule e (Record.Mcr r) = true
edition_rule e (Record.Mcrr r) = true
edition_rule e (Record.Ldc r) = true
edition_rule e (Record.Simd r) = true
edition_rule e (Record.Call r) = true
edition_rule e (Record.Smc r) = true
edition_rule e (Record.InstructionAbort r) = instruction_code e r.code
edition_rule e (Record.DataAbort r) =
    data_code e r.code && aet_rule e r.aet r.code && wnr_rule e r.wnr r.code && isv_code (ras e) r.isv r.code
