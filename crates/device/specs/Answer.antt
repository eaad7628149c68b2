-- The number of each answer (01, 'Numbers a call may answer'; 02, C-17).
use Rattle.std.specs.Prelude.{ℕ, Result, Ok, Err, List, [], ◌∷◌}
use Rattle.step.specs.Refusal.{onward_number}
use Rattle.step.specs.declared.refusal.OnwardRefusal.{OnwardRefusal}
use Rattle.device.specs.declared.answer.Moved.{Moved}

abbrev pub access_number : Result Moved OnwardRefusal → ℕ
access_number (Ok moved) = 0
access_number (Err refusal) = onward_number refusal

-- what finishing an access may answer
abbrev pub access_list : List ℕ
access_list = 0 ∷ 5 ∷ 9 ∷ 18 ∷ []
