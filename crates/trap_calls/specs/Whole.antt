-- Reading a whole trap: the answer of the call by value, as numbers and words.
use Rattle.std.specs.Prelude.{ℕ, ◌≡◌, List, [], ◌∷◌, Option, Some, None, Result, Ok, Err}
use Rattle.record.specs.declared.kinds.Record.{Record}
use Rattle.address.specs.declared.IntermediateAddress.{IntermediateAddress}
use Rattle.record_words.specs.Words.{zeros, words_of}
use Rattle.trap.specs.Numbers.{answer_said}
use Rattle.trap.specs.declared.Trap.{Trap}
use Rattle.trap_refusal.specs.declared.TrapRefusal.{TrapRefusal}

abbrev pub syndrome_in : Trap → Record
syndrome_in (Trap.Abort t) = t.syndrome
syndrome_in (Trap.Addressed t) = t.syndrome
syndrome_in (Trap.Plain r) = r

abbrev pub virtual_known : Option ℕ → ℕ
virtual_known (Some n) = 1
virtual_known None = 0

abbrev pub virtual_word : Option ℕ → ℕ
virtual_word (Some n) = n
virtual_word None = 0

-- none, the page or the byte
abbrev pub intermediate_known : Option IntermediateAddress → ℕ
intermediate_known None = 0
intermediate_known (Some (IntermediateAddress.Page n)) = 1
intermediate_known (Some (IntermediateAddress.Byte n)) = 2

abbrev pub intermediate_word : Option IntermediateAddress → ℕ
intermediate_word None = 0
intermediate_word (Some (IntermediateAddress.Page n)) = n
intermediate_word (Some (IntermediateAddress.Byte n)) = n

-- the trap's sort (0 an abort, 1 one that always tells its virtual address, 2 every other), whether the virtual address is known, and which
-- intermediate address is
abbrev pub known_in : Trap → List ℕ
known_in (Trap.Abort t) = 0 ∷ virtual_known t.address ∷ intermediate_known t.intermediate ∷ []
known_in (Trap.Addressed t) = 1 ∷ 1 ∷ 0 ∷ []
known_in (Trap.Plain r) = 2 ∷ 0 ∷ 0 ∷ []

abbrev pub addresses_in : Trap → List ℕ
addresses_in (Trap.Abort t) = virtual_word t.address ∷ intermediate_word t.intermediate ∷ []
addresses_in (Trap.Addressed t) = t.address ∷ 0 ∷ []
addresses_in (Trap.Plain r) = 0 ∷ 0 ∷ []

-- no refusal carries a record or an address
abbrev pub syndrome_shown : Result Trap TrapRefusal → List ℕ
syndrome_shown (Ok t) = words_of (syndrome_in t)
syndrome_shown (Err refusal) = zeros 16

abbrev pub known_shown : Result Trap TrapRefusal → List ℕ
known_shown (Ok t) = known_in t
known_shown (Err refusal) = zeros 3

abbrev pub addresses_shown : Result Trap TrapRefusal → List ℕ
addresses_shown (Ok t) = addresses_in t
addresses_shown (Err refusal) = zeros 2

-- `w` is the record, `k` what is known, `v` the addresses, `e` the mask and the count
pub record TrapWords (a : Result Trap TrapRefusal) (n : ℕ) (w k v e : List ℕ) : Type 0 where
  pub answer : n ≡ answer_said.number a
  pub words : w ≡ syndrome_shown a
  pub known : k ≡ known_shown a
  pub addresses : v ≡ addresses_shown a
  pub editions : e ≡ answer_said.mask a ∷ answer_said.count a ∷ []
