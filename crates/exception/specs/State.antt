-- A guest's state that changes (01, 'Guest state and the five injections'; 02, C-15). Its fields are listed here once.
use Rattle.std.specs.Prelude.{ℕ, List, slice_index, slice_set}
use Rattle.exception.specs.declared.state.Saved.{Saved}
use Rattle.exception.specs.declared.state.FaultRegisters.{FaultRegisters}
use Rattle.exception.specs.declared.state.Guest.{Guest}

-- what register n holds, and the registers with another value in it; from 31 on there is none, which reads as 0 and stays as it is
abbrev pub register_in : List ℕ → ℕ → ℕ
register_in regs n = slice_index regs n

abbrev pub with_register : List ℕ → ℕ → ℕ → List ℕ
with_register regs n value = slice_set regs n value

-- the state with these registers, PC, status word, saved status words and fault registers; the rest stays
abbrev pub changed : Guest → List ℕ → ℕ → ℕ → Saved → FaultRegisters → Guest
changed s regs pc status saved faults =
    record {
      regs = regs;
      pc = pc;
      status = status;
      saved = saved;
      faults = faults;
      sctlr = s.sctlr;
      vbar = s.vbar;
      ttbcr = s.ttbcr;
      marks = s.marks;
    }
