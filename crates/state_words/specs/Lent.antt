-- What a call on lent words promises: the number of the call by value on the state that they hold, and that they hold the state after it.
use Rattle.std.specs.Prelude.{ℕ, ◌≡◌, List}
use Rattle.exception.specs.declared.state.Guest.{Guest}
use Rattle.state_words.specs.Words.{words_of}

-- `w` are the words before the call and `w'` after it; `number` and `after` are the answer's and the state of the call by value
pub record Lent (w : List ℕ) (number : ℕ) (after : Guest) (n : ℕ) (w' : List ℕ) : Type 0 where
  pub answer : n ≡ number
  pub words : w' ≡ words_of w after
