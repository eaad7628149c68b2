-- The registers of a load or store in transfer order (02, C-18): the lowest first, from the lowest address on.
use Rattle.std.specs.Prelude.{ℕ, zero, suc, ◌+◌, ◌%◌, ◌^◌, Bool, true, cond, ◌&&◌, List, [], ◌∷◌, ◌++◌, count_ones, nat_lt}
use Rattle.bits.specs.Field.{bit_of}
use Rattle.a32_fields.specs.Code.{dual}
use Rattle.a32_fields.specs.declared.kinds.Transfer.{Transfer}
use Rattle.a32_fields.specs.declared.kinds.Fields.{Fields}

-- Rt, and for LDRD and STRD the register after it; as a number of 32 bits, which a legal Rt, below 14, doesn't reach the end of
abbrev pub transferred_from : Transfer → ℕ → List ℕ
transferred_from x t = cond (dual x) (t ∷ (t + 1) % 2 ^ 32 ∷ []) (t ∷ [])

-- the registers below n whose bits are in the list
unfoldable pub listed_below : ℕ → ℕ → List ℕ
listed_below zero list = []
listed_below (suc n) list = listed_below n list ++ cond (bit_of list n) (n ∷ []) []

unfoldable pub registers_of : Fields → List ℕ
registers_of (Fields.Immediate r) = transferred_from r.transfer r.rt
registers_of (Fields.Register r) = transferred_from r.transfer r.rt
registers_of (Fields.Literal r) = transferred_from r.transfer r.rt
registers_of (Fields.Multiple r) = listed_below 16 r.list

-- their number: for a list its number of ones (`count_length`, proofs/Counts.antt: the length of the registers)
abbrev pub number_from : Transfer → ℕ
number_from x = cond (dual x) 2 1

abbrev pub count_of : Fields → ℕ
count_of (Fields.Immediate r) = number_from r.transfer
count_of (Fields.Register r) = number_from r.transfer
count_of (Fields.Literal r) = number_from r.transfer
count_of (Fields.Multiple r) = count_ones r.list

-- a list as n numbers, 0 after its end
abbrev pub padded : ℕ → List ℕ → List ℕ
padded zero l = []
padded (suc n) [] = 0 ∷ padded n []
padded (suc n) (x ∷ xs) = x ∷ padded n xs

-- every number of a list is below n: the registers of legal fields are 0 to 15 (`registers_below`, proofs/Numbers.antt)
abbrev pub all_below : ℕ → List ℕ → Bool
all_below n [] = true
all_below n (x ∷ xs) = nat_lt x n && all_below n xs
