-- An input that comes in chunks: a state of the line that has not ended is kept, and at its newline the line is answered by a text.
use Rattle.std.specs.Prelude.{ℕ, cond, List, [], ◌∷◌, ◌++◌, eqb}
use Prim.Native.Char.{code}

-- the state after a chunk
module _ {S : Type 0} (start : S) (feed : S → ℕ → S) where
  abbrev pub state_after : S → List ℕ → S
  state_after s [] = s
  state_after s (byte ∷ rest) = cond (eqb byte (code "\n")) (state_after start rest) (state_after (feed s byte) rest)

-- the answers to the lines that end in a chunk
module _ {S : Type 0} (start : S) (feed : S → ℕ → S) (answer : S → List ℕ) where
  abbrev pub chunk_text : S → List ℕ → List ℕ
  chunk_text s [] = []
  chunk_text s (byte ∷ rest) = cond (eqb byte (code "\n")) (answer s ++ chunk_text start rest) (chunk_text (feed s byte) rest)
