-- The answers to an input, read in chunks and read whole.
use Rattle.std.specs.Prelude.{ℕ, Bool, cond, ◌≡◌, List, [], ◌∷◌, ◌++◌, eqb}
use Prim.Native.Char.{code}
use Rattle.line.specs.Feed.{started, fed, ended}
use Rattle.line.specs.Line.{line_of}
use Rattle.line.specs.declared.State.{State}
use Rattle.text.specs.Lines.{state_after, chunk_text}
use Rattle.trapread.specs.Answer.{answer_text}

-- a chunk that comes after the first bytes of a line: the line that it leaves unended, and the answers to those that it ends
abbrev pub line_after : State 18 → List ℕ → State 18
line_after = state_after (started 18) (fed 18)

abbrev pub answers_in : State 18 → List ℕ → List ℕ
answers_in = chunk_text (started 18) (fed 18) (λ s. answer_text (ended s))

-- some chunk was read after the first bytes of a line: it leaves the line `after`, and the text has its answers
pub record Answered (before after : State 18) (text : List ℕ) : Type 0 where
  pub chunk : List ℕ
  pub line : after ≡ line_after before chunk
  pub answers : text ≡ answers_in before chunk

-- a last line without a newline is answered too, where it is not empty
abbrev pub last_text : State 18 → List ℕ
last_text s = cond (eqb s.count 0) [] (answer_text (ended s))

-- where a read or a write failed, it is not
abbrev pub end_text : Bool → State 18 → List ℕ
end_text ended s = cond ended (last_text s) []

-- an input's lines without their newlines, after the first bytes of a line: the last may lack its newline, and is none where it is empty
abbrev pub unended : List ℕ → List (List ℕ)
unended [] = []
unended (byte ∷ line) = (byte ∷ line) ∷ []

abbrev pub lines_from : List ℕ → List ℕ → List (List ℕ)
lines_from line [] = unended line
lines_from line (byte ∷ rest) = cond (eqb byte (code "\n")) (line ∷ lines_from [] rest) (lines_from (line ++ (byte ∷ [])) rest)

abbrev pub lines_of : List ℕ → List (List ℕ)
lines_of input = lines_from [] input

-- an answer for each line
abbrev pub answers_to : List (List ℕ) → List ℕ
answers_to [] = []
answers_to (line ∷ lines) = answer_text (line_of line) ++ answers_to lines
