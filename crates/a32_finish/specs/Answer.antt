-- The number of each answer to an A32 load or store that is finished.
use Rattle.std.specs.Prelude.{ℕ, Result, Ok, Err}
use Rattle.a32.specs.declared.instruction.InstructionRefusal.{InstructionRefusal}
use Rattle.a32.specs.declared.instruction.InstructionRefusal.TheVariants.{UnsoundStatus, T32State, NoForm}
use Rattle.a32_finish.specs.declared.answer.Moved.{Moved}

abbrev pub finish_number : Result Moved InstructionRefusal → ℕ
finish_number (Ok moved) = 0
finish_number (Err UnsoundStatus) = 9
finish_number (Err T32State) = 19
finish_number (Err NoForm) = 19
