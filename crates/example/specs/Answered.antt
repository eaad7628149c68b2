-- A TRAP ANSWERED: one that is refused leaves the guest as it was, and one that is shown goes the way of its class.
use Rattle.std.specs.Prelude.{ℕ, Result, Ok, Err}
use Rattle.record.specs.declared.origin.Origin.{Origin}
use Rattle.registers.specs.declared.Esr.{Esr}
use Rattle.registers.specs.declared.Far.{Far}
use Rattle.registers.specs.declared.Hpfar.{Hpfar}
use Rattle.exception.specs.declared.state.Guest.{Guest}
use Rattle.trap_refusal.specs.declared.TrapRefusal.{TrapRefusal}
use Rattle.trap.specs.Answer.{answer_of}
use Rattle.trap.specs.Trap.{record_in}
use Rattle.trap.specs.declared.Trap.{Trap}
use Rattle.example.specs.declared.refusals.Refusal.{Refusal}
use Rattle.example.specs.declared.Answered.{Answered}
use Rattle.example.specs.Seen.{seen_of}
use Rattle.example.specs.Way.{way_of}
use Rattle.example.specs.Gone.{gone}

abbrev pub by_reading : Guest → ℕ → ℕ → Result Trap TrapRefusal → Answered
by_reading s word value (Err refusal) = record { next = Err (Refusal.Trap refusal); state = s }
by_reading s word value (Ok t) = gone s (record_in t) word value (way_of s.status (seen_of t))

abbrev pub answered : Guest → ℕ → Esr → Far → Hpfar → ℕ → ℕ → Answered
answered s edition esr far hpfar word value = by_reading s word value (answer_of Origin.AArch32 edition esr far hpfar)
