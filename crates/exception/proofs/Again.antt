-- A state that an exception left passes tests 9 and 10 where the old one did, so that a further exception finds it sound.
use Rattle.std.proofs.Common.{◌≡◌, true}
use Rattle.status.specs.Sound.{sound}
use Rattle.status.proofs.Again.{sound_again}
use Rattle.exception.specs.declared.state.FaultRegisters.{FaultRegisters}
use Rattle.exception.specs.declared.state.Guest.{Guest}
use Rattle.exception.specs.declared.entry.Row.{Row}
use Rattle.exception.specs.Vector.{aligned}
use Rattle.exception.specs.Entry.{entered}

pub entered_again : (s : Guest) (row : Row) (faults : FaultRegisters) → sound s.marks s.status ≡ true → aligned s.vbar ≡ true
    → (sound (entered s row faults).marks (entered s row faults).status ≡ true) × (aligned (entered s row faults).vbar ≡ true)
unfolding entered
entered_again s row faults e v = (sound_again s.marks row.mode row.a row.f s.status s.sctlr e, v)
