-- What is written is an answer to each line of the input. However the input comes in chunks, it is the same: `text`'s `state_both` and
-- `text_both`. Assumes nothing.
use mathlib.Core.Path.{◌≡◌, refl, sym, ap, ap₂, ◌∙◌}
use mathlib.Core.Bool.{Bool, true, false, cond}
use mathlib.Core.List.{List, [], ◌∷◌, ◌++◌, append_assoc, append-nil}
use Prim.Native.Nat.{ℕ}
use Prim.Native.Char.{code}
use lib.Dec.{eqb}
use borrow.Author.Tests.{ne_eqb}
use Rattle.line.specs.Feed.{started, fed, fed_all, ended}
use Rattle.line.specs.Line.{line_of}
use Rattle.line.specs.declared.State.{State}
use Rattle.line.proofs.Feeding.{fed_line, fed_some}
use Rattle.trapread.specs.Answer.{answer_text}
use Rattle.trapread.specs.Lines.{line_after, answers_in, last_text, unended, lines_from, lines_of, answers_to}

-- what is written for an input after the first bytes of a line: the answers as it is read, and that to a last line without a newline
abbrev written : State 18 → List ℕ → List ℕ
written s input = answers_in s input ++ last_text (line_after s input)

fed_one_more : (s : State 18) (line : List ℕ) (byte : ℕ) → (fed 18) (fed_all 18 s line) byte ≡ fed_all 18 s (line ++ (byte ∷ []))
fed_one_more s [] byte = refl
fed_one_more s (first ∷ line) byte = fed_one_more (fed 18 s first) line byte

last_line : (line : List ℕ) → last_text (fed_all 18 (started 18) line) ≡ answers_to (unended line)
last_line [] = refl
last_line (byte ∷ line) =
    let s = fed_all 18 (started 18) (byte ∷ line) in
    ap (λ t. cond t [] (answer_text (ended s))) (ne_eqb s.count 0 (fed_some byte line)) ∙ ap answer_text (fed_line (byte ∷ line))
    ∙ sym (append-nil (answer_text (line_of (byte ∷ line))))

lines_from_lem : (line input : List ℕ) → written (fed_all 18 (started 18) line) input ≡ answers_to (lines_from line input)
lines_from_lem line [] = last_line line
lines_from_lem line (byte ∷ rest) = go (eqb byte (code "\n")) (lines_from_lem [] rest) (lines_from_lem (line ++ (byte ∷ [])) rest)
  where
    s : State 18
    s = fed_all 18 (started 18) line

    go : (t : Bool) → written (started 18) rest ≡ answers_to (lines_from [] rest)
        → written (fed_all 18 (started 18) (line ++ (byte ∷ []))) rest ≡ answers_to (lines_from (line ++ (byte ∷ [])) rest)
        → cond t (answer_text (ended s) ++ answers_in (started 18) rest) (answers_in (fed 18 s byte) rest)
        ++ last_text (cond t (line_after (started 18) rest) (line_after (fed 18 s byte) rest))
        ≡ answers_to (cond t (line ∷ lines_from [] rest) (lines_from (line ++ (byte ∷ [])) rest))
    go true new on =
        append_assoc (answer_text (ended s)) (answers_in (started 18) rest) (last_text (line_after (started 18) rest))
        ∙ ap₂ (λ first others. first ++ others) (ap answer_text (fed_line line)) new
    go false new on = ap (λ t. written t rest) (fed_one_more (started 18) line byte) ∙ on

-- an answer to each line of the input
pub input_answered : (input : List ℕ) → answers_in (started 18) input ++ last_text (line_after (started 18) input) ≡ answers_to (lines_of input)
input_answered input = lines_from_lem [] input
