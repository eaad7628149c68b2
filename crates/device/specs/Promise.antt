-- What the two calls that finish an access promise (02, C-17): the answer and the whole state after it, and the answer's number.
use Rattle.std.specs.Prelude.{ℕ}
use Rattle.promise.specs.Promise.{Answers}
use Rattle.record.specs.declared.kinds.Record.{Record}
use Rattle.exception.specs.declared.state.Guest.{Guest}
use Rattle.step.specs.declared.over.Onward.{Onward}
use Rattle.device.specs.declared.answer.Moved.{Moved}
use Rattle.device.specs.Answer.{access_number}
use Rattle.device.specs.Finish.{access_numbers, finished}

abbrev pub FinishPromise : Guest → Record → ℕ → Onward Moved → Type 0
FinishPromise s r value = Answers (λ f. access_number f.answer) (finished s r value) (access_numbers s r)
