-- The number of each answer to a coprocessor read or write that is finished.
use Rattle.std.specs.Prelude.{ℕ, Result, Ok, Err}
use Rattle.step.specs.Refusal.{onward_number}
use Rattle.step.specs.declared.refusal.OnwardRefusal.{OnwardRefusal}
use Rattle.coprocessor.specs.declared.answer.Moved.{Moved}

abbrev pub transfer_number : Result Moved OnwardRefusal → ℕ
transfer_number (Ok moved) = 0
transfer_number (Err refusal) = onward_number refusal
