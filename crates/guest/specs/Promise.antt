-- What the two calls that inject promise (01, 'How tight each statement is'): the answer and the whole state after it, and the answer's
-- number.
use Rattle.promise.specs.Promise.{Answers}
use Rattle.exception.specs.declared.state.Guest.{Guest}
use Rattle.guest.specs.declared.injection.Injection.{Injection}
use Rattle.guest.specs.declared.injector.Injected.{Injected}
use Rattle.guest.specs.Answer.{answer_number}
use Rattle.guest.specs.Tests.{injection_numbers}
use Rattle.guest.specs.Inject.{injected}

abbrev pub Injecting : Guest → Injection → Injected → Type 0
Injecting s i = Answers (λ r. answer_number r.answer) (injected s i) (injection_numbers s i)
