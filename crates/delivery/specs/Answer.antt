-- The number of each answer to a delivery step (02, C-19), and the answer as the plain queue's.
use Rattle.std.specs.Prelude.{ℕ, Option, Some, None, Result, Ok, Err}
use Rattle.pending.specs.Step.{refused, nothing, delivered}
use Rattle.pending.specs.Step as plain
use Rattle.pending.specs.declared.Kind.{Kind}
use Rattle.delivery.specs.declared.DeliveryRefusal.{DeliveryRefusal}
use Rattle.delivery.specs.declared.DeliveryRefusal.TheVariants.{UnsoundStatus, UnalignedVbar}

abbrev pub answer_number : Result (Option Kind) DeliveryRefusal → ℕ
answer_number (Ok k) = 0
answer_number (Err UnsoundStatus) = 9
answer_number (Err UnalignedVbar) = 10

abbrev pub plain_answer : Result (Option Kind) DeliveryRefusal → plain.Answer
plain_answer (Ok (Some k)) = delivered k
plain_answer (Ok None) = nothing
plain_answer (Err UnsoundStatus) = refused 9
plain_answer (Err UnalignedVbar) = refused 10
