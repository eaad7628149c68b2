-- What the two calls that finish a described load or store promise: the answer with what goes to the device and the whole state after it,
-- and the answer's number.
use Rattle.std.specs.Prelude.{List, ℕ}
use Rattle.promise.specs.Promise.{Answers}
use Rattle.exception.specs.declared.state.Guest.{Guest}
use Rattle.a32.specs.Promise.{describe_numbers}
use Rattle.a32_finish.specs.declared.answer.Finished.{Finished}
use Rattle.a32_finish.specs.Answer.{finish_number}
use Rattle.a32_finish.specs.Finish.{finished}

abbrev pub AccessPromise : Guest → ℕ → List ℕ → Finished → Type 0
AccessPromise s w values = Answers (λ f. finish_number f.outcome.answer) (finished s w values) (describe_numbers s w)
