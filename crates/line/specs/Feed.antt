-- A line of at most N bytes read byte by byte: its first N bytes are kept, and its length is counted to N + 1.
use Rattle.std.specs.Prelude.{ℕ, ◌+◌, cond, List, [], ◌∷◌, ltb, eqb, set, replicate, Option, None}
use Rattle.line.specs.Line.{line_of}
use Rattle.line.specs.declared.Question.{Question}
use Rattle.line.specs.declared.State.{State}

abbrev pub started : (most : ℕ) → State most
started most = record { bytes = replicate most 0; count = 0 }

abbrev pub fed : (most : ℕ) → State most → ℕ → State most
fed most s byte =
    cond (ltb s.count most) (record { bytes = set s.bytes s.count byte; count = s.count + 1 })
    (record { bytes = s.bytes; count = most + 1 })

-- a whole line
abbrev pub fed_all : (most : ℕ) → State most → List ℕ → State most
fed_all most s [] = s
fed_all most s (byte ∷ rest) = fed_all most (fed most s byte) rest

-- the program's line, of 18 bytes
abbrev pub ended : State 18 → Option Question
ended s = cond (eqb s.count 18) (line_of s.bytes) None
