-- What each call answers: the call by value on the state that the lent words hold, and what it hands out. A refusal hands out zeros.
use Rattle.std.specs.Prelude.{ℕ, ◌≡◌, List, [], ◌∷◌, Result, Ok, Err}
use Rattle.record_words.specs.Words.{zeros}
use Rattle.exception.specs.declared.state.Guest.{Guest}
use Rattle.a32_access.specs.declared.access.Access.{Access}
use Rattle.a32.specs.declared.instruction.InstructionRefusal.{InstructionRefusal}
use Rattle.a32.specs.Promise.{answer_number, described_answer, registers_in}
use Rattle.a32_finish.specs.declared.answer.Moved.{Moved}
use Rattle.a32_finish.specs.declared.answer.Moved.TheVariants.{Loaded, Stored}
use Rattle.a32_finish.specs.Answer.{finish_number}
use Rattle.a32_finish.specs.Finish.{finished}
use Rattle.a32_words.specs.Words.{access_words}
use Rattle.state_words.specs.Words.{state_of}
use Rattle.state_words.specs.Lent.{Lent}

abbrev pub access_told : Result Access InstructionRefusal → List ℕ
access_told (Ok a) = access_words a
access_told (Err refusal) = zeros 16

pub record DescribedWords (s : Guest) (w n : ℕ) (a r : List ℕ) : Type 0 where
  pub answer : n ≡ answer_number (described_answer s w)
  pub access : a ≡ access_told (described_answer s w)
  pub registers : r ≡ registers_in (described_answer s w)

-- whether a store was made, and how many registers were transferred
abbrev pub transfer_told : Result Moved InstructionRefusal → List ℕ
transfer_told (Ok (Loaded a)) = 0 ∷ a.count ∷ []
transfer_told (Ok (Stored a)) = 1 ∷ a.count ∷ []
transfer_told (Err refusal) = zeros 2

pub record FinishedWords (w : List ℕ) (word : ℕ) (values : List ℕ) (n : ℕ) (w' t a g : List ℕ) : Type 0 where
  pub lent : Lent w (finish_number (finished (state_of w) word values).outcome.answer) (finished (state_of w) word values).state n w'
  pub transfer : t ≡ transfer_told (finished (state_of w) word values).outcome.answer
  pub addresses : a ≡ (finished (state_of w) word values).outcome.addresses
  pub given : g ≡ (finished (state_of w) word values).outcome.values
