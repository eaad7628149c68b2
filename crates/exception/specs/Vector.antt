-- Where the vectors stand (01, 'Guest state and the five injections').
use Rattle.std.specs.Prelude.{ℕ, Bool, cond, ◌==◌}
use Rattle.bits.specs.Field.{field_of, bit_of}

-- 10: VBAR bits 4:0 are zero
unfoldable pub aligned : ℕ → Bool
aligned vbar = field_of vbar 4 0 == 0

-- the base of the vector table: 0xFFFF0000 where SCTLR.V, bit 13, is 1, else VBAR
abbrev pub vector_base : ℕ → ℕ → ℕ
vector_base sctlr vbar = cond (bit_of sctlr 13) 0xFFFF_0000 vbar
