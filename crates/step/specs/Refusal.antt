-- The number of each refusal of the calls that go on from a trapped instruction (01, 'Numbers a call may answer'; 02, C-17)
use Rattle.std.specs.Prelude.{ℕ}
use Rattle.step.specs.declared.refusal.OnwardRefusal.{OnwardRefusal}
use Rattle.step.specs.declared.refusal.OnwardRefusal.TheVariants.{NoEdition, UnsoundStatus, NotThis}

abbrev pub onward_number : OnwardRefusal → ℕ
onward_number NoEdition = 5
onward_number UnsoundStatus = 9
onward_number NotThis = 18
