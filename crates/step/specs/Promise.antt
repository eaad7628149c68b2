-- What the calls that step over an instruction promise: the answer and the whole state after it, and the answer's number.
use Rattle.std.specs.Prelude.{⊤}
use Rattle.promise.specs.Promise.{Answers}
use Rattle.record.specs.declared.kinds.Record.{Record}
use Rattle.exception.specs.declared.state.Guest.{Guest}
use Rattle.step.specs.declared.over.Onward.{Onward}
use Rattle.step.specs.Over.{number_stepped, step_numbers, stepped_over}

abbrev pub StepPromise : Guest → Record → Onward ⊤ → Type 0
StepPromise s r = Answers number_stepped (stepped_over s r) (step_numbers s r)
