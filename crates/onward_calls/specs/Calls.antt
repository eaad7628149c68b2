-- What each call answers: the call by value on the state that the lent words hold, and what it hands out.
use Rattle.std.specs.Prelude.{ℕ, Result, Ok, Err, ◌≡◌, List, [], ◌∷◌}
use Rattle.record.specs.declared.kinds.Record.{Record}
use Rattle.step.specs.declared.refusal.OnwardRefusal.{OnwardRefusal}
use Rattle.step.specs.Over.{step_number, stepped_over}
use Rattle.device.specs.Answer.{access_number}
use Rattle.device.specs.Finish as device
use Rattle.device.specs.declared.answer.Moved.{Moved as Access}
use Rattle.device.specs.declared.answer.Moved.TheVariants as access
use Rattle.coprocessor.specs.Answer.{transfer_number}
use Rattle.coprocessor.specs.Finish as coprocessor
use Rattle.coprocessor.specs.declared.answer.Moved.{Moved as Transfer}
use Rattle.coprocessor.specs.declared.answer.Moved.TheVariants as transfer
use Rattle.state_words.specs.Words.{state_of}
use Rattle.state_words.specs.Lent.{Lent}

abbrev pub Stepping : List ℕ → Record → ℕ → List ℕ → Type 0
Stepping w r = Lent w (step_number (stepped_over (state_of w) r).answer) (stepped_over (state_of w) r).state

-- what a store gives the device; a load and a refusal give nothing
abbrev pub stored_in : Result Access OnwardRefusal → ℕ
stored_in (Ok access.Loaded) = 0
stored_in (Ok (access.Stored value)) = value
stored_in (Err refusal) = 0

pub record Finishing (w : List ℕ) (r : Record) (value n : ℕ) (w' : List ℕ) (out : ℕ) : Type 0 where
  pub lent : Lent w (access_number (device.finished (state_of w) r value).answer) (device.finished (state_of w) r value).state n w'
  pub given : out ≡ stored_in (device.finished (state_of w) r value).answer

-- what a write hands out of Rt and Rt2; a read and a refusal hand out nothing
abbrev pub first_in : Result Transfer OnwardRefusal → ℕ
first_in (Ok transfer.Read) = 0
first_in (Ok (transfer.Written value)) = value
first_in (Ok (transfer.WrittenTwo first second)) = first
first_in (Err refusal) = 0

abbrev pub second_in : Result Transfer OnwardRefusal → ℕ
second_in (Ok transfer.Read) = 0
second_in (Ok (transfer.Written value)) = 0
second_in (Ok (transfer.WrittenTwo first second)) = second
second_in (Err refusal) = 0

pub record Transferring (w : List ℕ) (r : Record) (first second n : ℕ) (w' out : List ℕ) : Type 0 where
  pub lent : Lent w (transfer_number (coprocessor.finished (state_of w) r first second).answer)
      (coprocessor.finished (state_of w) r first second).state n w'
  pub given : out ≡ first_in (coprocessor.finished (state_of w) r first second).answer
      ∷ second_in (coprocessor.finished (state_of w) r first second).answer ∷ []
