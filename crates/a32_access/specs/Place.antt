-- The first address and the change of the base (02, C-18), from the base's value and the size of the offset. U adds the offset, or else
-- subtracts it.
use Rattle.std.specs.Prelude.{ℕ, ◌-◌, ◌*◌, Bool, false, cond, List, count_ones}
use Rattle.signed.specs.declared.Signed.{Signed}
use Rattle.signed.specs.declared.Signed.TheVariants.{Plus, Minus}
use Rattle.signed.specs.Signed.{signed, sum_of}
use Rattle.a32_fields.specs.declared.kinds.Fields.{Fields}
use Rattle.a32_rule.specs.Rule.{writes_back}
use Rattle.a32_access.specs.Value.{value_of, literal_base}

-- the value of the base, and the size of the offset: an immediate, a register's value as unsigned, or 4 for each register of a list
abbrev pub base_of : List ℕ → ℕ → ℕ → Fields → ℕ
base_of regs pc mode (Fields.Immediate r) = value_of regs pc mode r.rn
base_of regs pc mode (Fields.Register r) = value_of regs pc mode r.rn
base_of regs pc mode (Fields.Literal r) = literal_base pc
base_of regs pc mode (Fields.Multiple r) = value_of regs pc mode r.rn

abbrev pub offset_of : List ℕ → ℕ → ℕ → Fields → ℕ
offset_of regs pc mode (Fields.Immediate r) = r.imm
offset_of regs pc mode (Fields.Register r) = value_of regs pc mode r.rm
offset_of regs pc mode (Fields.Literal r) = r.imm
offset_of regs pc mode (Fields.Multiple r) = 4 * count_ones r.list

abbrev pub up_of : Fields → Bool
up_of (Fields.Immediate r) = r.u
up_of (Fields.Register r) = r.u
up_of (Fields.Literal r) = r.u
up_of (Fields.Multiple r) = r.u

-- the base is written back
abbrev pub back_of : Fields → Bool
back_of (Fields.Immediate r) = writes_back r.p r.w
back_of (Fields.Register r) = writes_back r.p r.w
back_of (Fields.Literal r) = false
back_of (Fields.Multiple r) = r.w

-- a list's first address is above the base by 4 (IB) or nothing (IA), or below it by the whole size (DB) or 4 less (DA); a legal list has
-- some register, so its size is at least 4 (`list_some`, proofs/Counts.antt)
abbrev pub list_distance : Bool → Bool → ℕ → ℕ
list_distance p u size = cond u (cond p 4 0) (cond p size (size - 4))

-- how far the first address is from the base: post-indexed, it is the base
abbrev pub distance_of : Fields → ℕ → ℕ
distance_of (Fields.Immediate r) size = cond r.p size 0
distance_of (Fields.Register r) size = cond r.p size 0
distance_of (Fields.Literal r) size = size
distance_of (Fields.Multiple r) size = list_distance r.p r.u size

-- a size, added or subtracted
abbrev pub signed_by : Bool → ℕ → Signed
signed_by u size = cond u (Plus size) (Minus size)

-- THE FIRST ADDRESS, modulo 2^32
abbrev pub address_of : Fields → ℕ → ℕ → ℕ
address_of f base size = sum_of base (signed (signed_by (up_of f) (distance_of f size)))

-- THE CHANGE of the base: the offset, added or subtracted, where the base is written back, else 0
abbrev pub change_of : Fields → ℕ → Signed
change_of f size = cond (back_of f) (signed_by (up_of f) size) (Plus 0)
