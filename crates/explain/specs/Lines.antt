-- The answers to an input, read in chunks and read whole.
use Rattle.std.specs.Prelude.{ℕ, Bool, cond, ◌≡◌, List, [], eqb}
use Rattle.line.specs.Feed.{started, fed}
use Rattle.question.specs.Feed.{ended}
use Rattle.line.specs.declared.State.{State}
use Rattle.text.specs.Lines.{state_after, chunk_text}
use Rattle.explain.specs.Answer.{answer_text}

-- a chunk that comes after the first bytes of a line: the line that it leaves unended, and the answers to those that it ends
abbrev pub line_after : State 52 → List ℕ → State 52
line_after = state_after (started 52) (fed 52)

abbrev pub answers_in : State 52 → List ℕ → List ℕ
answers_in = chunk_text (started 52) (fed 52) (λ s. answer_text (ended s))

-- some chunk was read after the first bytes of a line: it leaves the line `after`, and the text has its answers
pub record Answered (before after : State 52) (text : List ℕ) : Type 0 where
  pub chunk : List ℕ
  pub line : after ≡ line_after before chunk
  pub answers : text ≡ answers_in before chunk

-- a last line without a newline is answered too, where it is not empty
abbrev pub last_text : State 52 → List ℕ
last_text s = cond (eqb s.count 0) [] (answer_text (ended s))

-- where a read or a write failed, it is not
abbrev pub end_text : Bool → State 52 → List ℕ
end_text ended s = cond ended (last_text s) []
