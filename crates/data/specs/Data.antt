-- What passes between a register and the device (02, C-17: "take the low 8, 16 or 32 bits, reverse the bytes if the status word's E bit is
-- set, extend by sign or zero as SSE says").
use Rattle.std.specs.Prelude.{ℕ, ◌+◌, ◌*◌, ◌^◌, Bool, ◌&&◌, cond, eqb}
use Rattle.bits.specs.Field.{field_of, bit_of}

-- SAS 0 is a byte, 1 a halfword, 2 a word
abbrev pub by_size : {A : Type 0} → ℕ → A → A → A → A
by_size sas byte half word = cond (eqb sas 0) byte (cond (eqb sas 1) half word)

-- E: the guest's data is big-endian
abbrev pub big_endian : ℕ → Bool
big_endian w = bit_of w 9

-- the low 8, 16 or 32 bits
unfoldable pub cut_to : ℕ → ℕ → ℕ
cut_to sas v = by_size sas (field_of v 7 0) (field_of v 15 0) (field_of v 31 0)

-- the bytes in reverse
unfoldable pub reversed : ℕ → ℕ → ℕ
reversed sas v =
    by_size sas
    (field_of v 7 0)
    (field_of v 7 0 * 2 ^ 8 + field_of v 15 8)
    (field_of v 7 0 * 2 ^ 24 + field_of v 15 8 * 2 ^ 16 + field_of v 23 16 * 2 ^ 8 + field_of v 31 24)

-- the low bits as they pass, in the order that E chooses
abbrev pub transferred : ℕ → Bool → ℕ → ℕ
transferred sas big v = cond big (reversed sas (cut_to sas v)) (cut_to sas v)

-- the highest of the low bits, and ones above them
abbrev pub sign_of : ℕ → ℕ → Bool
sign_of sas v = by_size sas (bit_of v 7) (bit_of v 15) (bit_of v 31)

abbrev pub ones_above : ℕ → ℕ
ones_above sas = by_size sas 0xFFFF_FF00 0xFFFF_0000 0

-- the low bits, extended to 32 by sign where SSE is 1, else by zero
abbrev pub extended : ℕ → Bool → ℕ → ℕ
extended sas sse v = cond (sse && sign_of sas v) (ones_above sas + cut_to sas v) (cut_to sas v)
