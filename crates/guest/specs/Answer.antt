-- The number of each answer (01, 'Numbers a call may answer'; 02, C-21: 20).
use Rattle.std.specs.Prelude.{ℕ, List, [], ◌∷◌, Result, Ok, Err}
use Rattle.guest.specs.declared.answer.InjectionRefusal.{InjectionRefusal}
use Rattle.guest.specs.declared.answer.InjectionRefusal.TheVariants.{UnsoundStatus, UnalignedVbar, UnwritableFault, WideAddress}
use Rattle.guest.specs.declared.answer.InjectionRefusal.TheVariants.{WideDomain}

abbrev pub answer_number : Result Unit InjectionRefusal → ℕ
answer_number (Ok tt) = 0
answer_number (Err UnsoundStatus) = 9
answer_number (Err UnalignedVbar) = 10
answer_number (Err UnwritableFault) = 11
answer_number (Err WideAddress) = 12
answer_number (Err WideDomain) = 20

-- what an injection may answer
abbrev pub injection_list : List ℕ
injection_list = 0 ∷ 9 ∷ 10 ∷ 11 ∷ 20 ∷ 12 ∷ []
