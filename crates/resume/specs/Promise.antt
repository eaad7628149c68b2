-- What the calls that return promise: the answer and the whole state after it, and the answer's number.
use Rattle.promise.specs.Promise.{Answers}
use Rattle.signed.specs.declared.Signed.{Signed}
use Rattle.exception.specs.declared.state.Guest.{Guest}
use Rattle.resume.specs.declared.Resumed.{Resumed}
use Rattle.resume.specs.Answer.{answer_number}
use Rattle.resume.specs.Return.{return_numbers, returned}

abbrev pub Returning : Guest → Signed → Resumed → Type 0
Returning s c = Answers (λ r. answer_number r.answer) (returned s c) (return_numbers s)
