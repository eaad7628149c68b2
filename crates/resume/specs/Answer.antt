-- The number of each answer (02, C-22): 9 is the only refusal.
use Rattle.std.specs.Prelude.{ℕ, Result, Ok, Err}
use Rattle.resume.specs.declared.ReturnRefusal.{ReturnRefusal}
use Rattle.resume.specs.declared.ReturnRefusal.TheVariants.{UnsoundStatus, NoSavedStatus, UnsoundSaved}

abbrev pub answer_number : Result Unit ReturnRefusal → ℕ
answer_number (Ok tt) = 0
answer_number (Err UnsoundStatus) = 9
answer_number (Err NoSavedStatus) = 9
answer_number (Err UnsoundSaved) = 9
