-- The number of each refusal, which is that of the call that refused
use Rattle.std.specs.Prelude.{ℕ, Err}
use Rattle.guest.specs.Answer.{answer_number}
use Rattle.step.specs.Refusal.{onward_number}
use Rattle.trap_refusal.specs.Numbers.{trap_number}
use Rattle.example.specs.declared.refusals.Refusal.{Refusal}

abbrev pub refusal_number : Refusal → ℕ
refusal_number (Refusal.Trap refusal) = trap_number refusal
refusal_number (Refusal.Injection refusal) = answer_number (Err refusal)
refusal_number (Refusal.Onward refusal) = onward_number refusal
