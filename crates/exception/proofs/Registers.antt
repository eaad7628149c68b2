-- Laws of the registers after an exception: the link register has the link, and every other register stays.
use Rattle.std.proofs.Common.{◌≡◌, ℕ, ◌<◌, length, get_or, get_or-set_other, get_or-set_same}
use Rattle.exception.specs.declared.state.FaultRegisters.{FaultRegisters}
use Rattle.exception.specs.declared.state.Guest.{Guest}
use Rattle.exception.specs.declared.entry.Row.{Row}
use Rattle.exception.specs.Entry.{link_from, entered}

module _ (s : Guest) (row : Row) (faults : FaultRegisters) where
  pub link_held : row.link < length s.regs → get_or (entered s row faults).regs row.link 0 ≡ link_from s row
  unfolding entered
  link_held h = get_or-set_same s.regs row.link (link_from s row) 0 h

  pub others_kept : (k : ℕ) → (k ≡ row.link → ⊥) → get_or (entered s row faults).regs k 0 ≡ get_or s.regs k 0
  unfolding entered
  others_kept k n = get_or-set_other s.regs row.link k (link_from s row) 0 n
