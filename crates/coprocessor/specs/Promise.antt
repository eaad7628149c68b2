-- What the two calls that finish a coprocessor read or write promise: the answer and the whole state after it, and the answer's
-- number.
use Rattle.std.specs.Prelude.{ℕ}
use Rattle.promise.specs.Promise.{Answers}
use Rattle.record.specs.declared.kinds.Record.{Record}
use Rattle.exception.specs.declared.state.Guest.{Guest}
use Rattle.step.specs.declared.over.Onward.{Onward}
use Rattle.coprocessor.specs.declared.answer.Moved.{Moved}
use Rattle.coprocessor.specs.Answer.{transfer_number}
use Rattle.coprocessor.specs.Finish.{transfer_numbers, finished}

abbrev pub TransferPromise : Guest → Record → ℕ → ℕ → Onward Moved → Type 0
TransferPromise s r first second = Answers (λ f. transfer_number f.answer) (finished s r first second) (transfer_numbers s r)
