-- The paper's number, mask and number of ones of a refused trap (01, 'Numbers a call may answer'): its syndrome's, or 7 or 8 alone.
use Rattle.std.specs.Prelude.{ℕ}
use Rattle.edition.specs.Judge.{refusal_number, refusal_mask, refusal_count}
use Rattle.trap_refusal.specs.declared.TrapRefusal.{TrapRefusal}

abbrev pub trap_number : TrapRefusal → ℕ
trap_number (TrapRefusal.Syndrome refusal) = refusal_number refusal
trap_number TrapRefusal.Hpfar = 7
trap_number TrapRefusal.Far = 8

abbrev pub trap_mask : TrapRefusal → ℕ
trap_mask (TrapRefusal.Syndrome refusal) = refusal_mask refusal
trap_mask TrapRefusal.Hpfar = 0
trap_mask TrapRefusal.Far = 0

abbrev pub trap_count : TrapRefusal → ℕ
trap_count (TrapRefusal.Syndrome refusal) = refusal_count refusal
trap_count TrapRefusal.Hpfar = 0
trap_count TrapRefusal.Far = 0
