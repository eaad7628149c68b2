-- C-22 beside running code: an injection, and the return right after it with that injection's correction.
use Rattle.std.specs.Prelude.{cond, ℕ, eqb, Result, Ok, Err}
use Rattle.promise.specs.Promise.{Answers}
use Rattle.exception.specs.declared.state.Guest.{Guest}
use Rattle.guest.specs.declared.answer.InjectionRefusal.{InjectionRefusal}
use Rattle.guest.specs.declared.injection.Injection.{Injection}
use Rattle.guest.specs.Answer as injection
use Rattle.guest.specs.Inject.{injection_answer}
use Rattle.guest.specs.Tests.{injection_numbers}
use Rattle.resume.specs.Answer as return
use Rattle.resume.specs.Nest.{undone}
use Rattle.nest.specs.declared.NestRefusal.{NestRefusal}
use Rattle.nest.specs.declared.Back.{Back}
use Rattle.nest.specs.Entry.{Entry, injecting, exception_of}

-- the first state, with what the exception left of the mode's saved status and link register and of the fault registers
abbrev pub undone_by : Guest → Entry → Guest
undone_by s e = undone s (exception_of e).row ((exception_of e).leaves s)

-- an injection's answer, as the call's
abbrev pub uninjected : Result Unit InjectionRefusal → Result Unit NestRefusal
uninjected (Ok u) = Ok u
uninjected (Err r) = Err (NestRefusal.Injection r)

-- an injection that is taken comes back, and the return answers 0; a refusal leaves the state
abbrev pub back_from : Guest → Injection → Result Unit InjectionRefusal → Back
back_from s i a =
    cond (eqb (injection.answer_number a) 0) (record { answer = Ok tt; state = undone_by s (injecting i) })
    (record { answer = uninjected a; state = s })

unfoldable pub back_of : Guest → Injection → Back
back_of s i = back_from s i (injection_answer s i)

abbrev pub answer_number : Result Unit NestRefusal → ℕ
answer_number (Ok u) = 0
answer_number (Err (NestRefusal.Injection r)) = injection.answer_number (Err r)
answer_number (Err (NestRefusal.Return r)) = return.answer_number (Err r)

-- THE PROMISE: the answer and the whole state after it, and the answer's number, which is the injection's, since the return answers 0
abbrev pub GoingBack : Guest → Injection → Back → Type 0
GoingBack s i = Answers (λ b. answer_number b.answer) (back_of s i) (injection_numbers s i)
