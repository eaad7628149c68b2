-- A delivery step of the plain queue (02, C-19), over any type of guest state.
use Rattle.std.specs.Prelude.{ℕ, Bool, cond, List, eqb}
use Rattle.pending.specs.declared.Kind.{Kind}
use Rattle.pending.specs.Plain.{Chosen, none, oldest, chosen}

-- what a step asks of a state, and what a delivery makes of it
pub record Delivery (S : Type 0) : Type 0 where
  -- 9 or 10, the number of the first test that the state fails; 0 where it passes both
  pub refusal : S → ℕ
  -- a kind's mask bit
  pub mask : S → Kind → Bool
  -- the state after a kind was injected
  pub injected : S → Kind → S

-- what a step answers: a refusal's number; or 0, with nothing delivered or with the name of what was
pub data Answer : Type 0 where
  refused : ℕ → Answer
  nothing : Answer
  delivered : Kind → Answer

abbrev pub answer_number : Answer → ℕ
answer_number (refused n) = n
answer_number nothing = 0
answer_number (delivered k) = 0

-- the answer, what waits after the step, and the state after it
pub record Step (S : Type 0) : Type 0 where
  pub answer : Answer
  pub waiting : List Kind
  pub state : S

abbrev pub step_to : {S : Type 0} → Answer → List Kind → S → Step S
step_to a l s = record { answer = a; waiting = l; state = s }

module _ {S : Type 0} (d : Delivery S) where
  -- the state passes the tests 9 and 10
  abbrev pub taken : S → Bool
  taken s = eqb (d.refusal s) 0

  -- the oldest whose mask bit is 0 is injected, named and leaves the queue; where there is none, nothing changes
  abbrev pub deliver_to : List Kind → S → Chosen → Step S
  deliver_to l s none = step_to nothing l s
  deliver_to l s (oldest k left) = step_to (delivered k) left (d.injected s k)

  -- DELIVER: a state that is refused is no step and moves nothing
  unfoldable pub step_of : List Kind → S → Step S
  step_of l s = cond (taken s) (deliver_to l s (chosen (d.mask s) l)) (step_to (refused (d.refusal s)) l s)
