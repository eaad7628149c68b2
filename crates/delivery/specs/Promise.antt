-- What the calls that deliver promise: the answer, what waits after it and the whole state are the plain queue's, and the answer's number.
-- None is 6, so that nothing else comes with it.
use Rattle.std.specs.Prelude.{◌≡◌}
use Rattle.bits.specs.Decide.{decide}
use Rattle.exception.specs.declared.state.Guest.{Guest}
use Rattle.pending.specs.declared.Queue.{Queue}
use Rattle.pending.specs.Reading.{list_of}
use Rattle.pending.specs.Step.{step_to, step_of}
use Rattle.delivery.specs.declared.Delivered.{Delivered}
use Rattle.delivery.specs.Answer.{answer_number, plain_answer}
use Rattle.delivery.specs.Deliver.{delivery_numbers, guest_delivery}

pub record Delivering (q : Queue) (s : Guest) (r : Delivered) : Type 0 where
  pub answer : step_to (plain_answer r.outcome.answer) (list_of r.outcome.queue) r.state ≡ step_of guest_delivery (list_of q) s
  pub number : answer_number r.outcome.answer ≡ decide (delivery_numbers s) 0
