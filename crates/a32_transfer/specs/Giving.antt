-- What a store gives the device, and the addresses of a load or store, in transfer order.
use Rattle.std.specs.Prelude.{ℕ, zero, suc, ◌+◌, ◌*◌, ◌%◌, ◌^◌, Bool, List, [], ◌∷◌, ◌++◌, slice_index}
use Rattle.data.specs.Data.{transferred}
use Rattle.a32_access.specs.Value.{value_of}

-- what a rule gives at 0, 1 and on, below n
unfoldable pub firsts : (ℕ → ℕ) → ℕ → List ℕ
firsts rule zero = []
firsts rule (suc n) = firsts rule n ++ (rule n ∷ [])

-- the address of transfer i: 4 bytes after the one before it, modulo 2^32
abbrev pub address_at : ℕ → ℕ → ℕ
address_at first i = (first + 4 * i) % 2 ^ 32

-- what transfer i gives: its register's low bits, reversed where the guest's data is big-endian (02, C-17). Register 15 reads PC plus 8,
-- which is the manual's PCStoreValue.
abbrev pub given_at : List ℕ → ℕ → ℕ → Bool → ℕ → List ℕ → ℕ → ℕ
given_at regs pc mode big sas numbers i = transferred sas big (value_of regs pc mode (slice_index numbers i))
