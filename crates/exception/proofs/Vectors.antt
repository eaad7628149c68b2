-- The sum of a vector and an aligned base doesn't wrap, so that the PC of an exception in a state that passes 10 is the plain sum.
use Rattle.std.proofs.Common.{◌≡◌, ℕ, ◌+◌, ◌/◌, ◌%◌, ◌^◌, ◌<◌, Bool, true, false, cond, mod-eq_of_lt, arith, eqb-true}
use Rattle.bits.specs.Field.{bit_of}
use Rattle.exception.specs.declared.state.FaultRegisters.{FaultRegisters}
use Rattle.exception.specs.declared.state.Guest.{Guest}
use Rattle.exception.specs.declared.entry.Row.{Row}
use Rattle.exception.specs.Vector.{aligned, vector_base}
use Rattle.exception.specs.Entry.{entered}

pub vector_exact : (sctlr vbar v : ℕ) → aligned vbar ≡ true → vbar < 2 ^ 32 → v < 32
    → (vector_base sctlr vbar + v) % 2 ^ 32 ≡ vector_base sctlr vbar + v
unfolding aligned
vector_exact sctlr vbar v e h k = go (bit_of sctlr 13)
  where
    go : (b : Bool) → (cond b 0xFFFF_0000 vbar + v) % 2 ^ 32 ≡ cond b 0xFFFF_0000 vbar + v
    go true = mod-eq_of_lt (omega arith)
    go false = let d : vbar / 2 ^ 0 % 2 ^ 5 ≡ 0 = eqb-true (vbar / 2 ^ 0 % 2 ^ 5) 0 e in mod-eq_of_lt (omega arith)

pub entered_pc : (s : Guest) (row : Row) (faults : FaultRegisters) → aligned s.vbar ≡ true → s.vbar < 2 ^ 32 → row.vector < 32
    → (entered s row faults).pc ≡ vector_base s.sctlr s.vbar + row.vector
unfolding entered
entered_pc s row faults e h k = vector_exact s.sctlr s.vbar row.vector e h k
