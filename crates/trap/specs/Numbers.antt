-- The paper's number, mask and number of ones of each answer (01, 'Numbers a call may answer'): 0, 0, 0 where a trap is shown, or two,
-- else the refusal's.
use Rattle.std.specs.Prelude.{ℕ, Result, Ok, Err}
use Rattle.promise.specs.Promise.{Numbers}
use Rattle.trap_refusal.specs.Numbers.{trap_number, trap_mask, trap_count}
use Rattle.trap_refusal.specs.declared.TrapRefusal.{TrapRefusal}
use Rattle.trap.specs.declared.Trap.{Trap}

abbrev pub number_answer : {A : Type 0} → Result A TrapRefusal → ℕ
number_answer (Ok shown) = 0
number_answer (Err refusal) = trap_number refusal

abbrev pub mask_answer : {A : Type 0} → Result A TrapRefusal → ℕ
mask_answer (Ok shown) = 0
mask_answer (Err refusal) = trap_mask refusal

abbrev pub count_answer : {A : Type 0} → Result A TrapRefusal → ℕ
count_answer (Ok shown) = 0
count_answer (Err refusal) = trap_count refusal

abbrev pub answer_said : Numbers (Result Trap TrapRefusal)
answer_said = record { number = number_answer; mask = mask_answer; count = count_answer }

abbrev pub both_numbers : Numbers (Result (Trap × Trap) TrapRefusal)
both_numbers = record { number = number_answer; mask = mask_answer; count = count_answer }
