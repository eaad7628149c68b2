-- An answer takes no more than 4096 bytes, and those to a chunk no more than 4096 for each of its bytes.
-- Assumes nothing.
use mathlib.Core.Path.{refl}
use mathlib.Core.Bool.{Bool, true, false, cond}
use mathlib.Core.List.{List, [], ◌∷◌, ◌++◌}
use Prim.Native.Nat.{ℕ, suc, ◌*◌, ◌≤◌}
use Prim.Native.Char.{code}
use native.Mathlib.Omega.{arith}
use lib.Dec.{eqb}
use lib.ListN.{length, length-append}
use Rattle.bits.specs.Field.{field_of}
use Rattle.edition.specs.Judge.{refusal_number}
use Rattle.explain_text.proofs.Room.{joined, choice_length, word_said_length, trap_said_length}
use Rattle.field_text.proofs.Room.{shape_length}
use Rattle.line.specs.Feed.{started, fed}
use Rattle.question.specs.Feed.{ended}
use Rattle.question.specs.declared.Question.{Question}
use Rattle.line.specs.declared.State.{State}
use Rattle.refusal_text.specs.Refusal.{refusal_text}
use Rattle.refusal_text.specs.Why.{why_text}
use Rattle.refusal_text.proofs.Room.{refusal_length, why_length}
use Rattle.short.specs.Reading as Short
use Rattle.short_record.specs.declared.kinds.Record.{Record}
use Rattle.edition.specs.declared.Refusal.{Refusal}
use Rattle.std.specs.Prelude.{Result, Ok, Err, Option, Some, None}
use Rattle.short_reason.specs.Reason as ShortReason
use Rattle.short_text.specs.Inner as ShortLines
use Rattle.short_text.proofs.Readings as Readings
use Rattle.text.specs.Ascii.{ascii}
use Rattle.explain.specs.Answer.{answer_text}
use Rattle.explain.specs.Lines.{answers_in}

-- the fields of a word of the short form
short_word_length : (w : ℕ) → length (ShortLines.word_text w) ≤ 3120
unfolding ShortLines.word_text
short_word_length w = shape_length (ShortLines.shape_of (field_of w 31 26) (field_of w 5 0)) w

short_length : (w : ℕ) (a : Result Record Refusal) → length (ShortLines.read_lines w a) ≤ 4096
short_length w (Ok r) =
    joined (ascii "taken\n") (ShortLines.word_text w) 6 3120 (omega arith) (short_word_length w) (omega arith)
short_length w (Err refusal) =
    joined (refusal_text true refusal) (ShortLines.others_lines w refusal) 512 3120 (refusal_length true refusal)
    (choice_length (eqb (refusal_number refusal) 6) (eqb (refusal_number refusal) 5) (ShortLines.word_text w)
    (why_text (ShortReason.why_of w)) (short_word_length w) (omega (arith, why_length (ShortReason.why_of w)))) (omega arith)

pub answer_length : (q : Option Question) → length (answer_text q) ≤ 4096
answer_length (Some (Question.Word edition esr)) =
    omega (arith, word_said_length edition (record { 0 = esr }))
answer_length (Some (Question.Trap edition esr far hpfar)) =
    omega (arith, trap_said_length edition (record { 0 = esr }) (record { 0 = far }) (record { 0 = hpfar }))
answer_length (Some (Question.Short edition hsr)) =
    rw (← Readings.read_said_lem edition (record { 0 = hsr }) _ refl) (short_length hsr (Short.read_of edition (record { 0 = hsr })))
answer_length None = omega arith

pub chunk_length : (s : State 52) (chunk : List ℕ) → length (answers_in s chunk) ≤ 4096 * length chunk
chunk_length s [] = omega arith
chunk_length s (byte ∷ rest) = go (eqb byte (code "\n")) (chunk_length (started 52) rest) (chunk_length (fed 52 s byte) rest)
  where
    go : (t : Bool) → length (answers_in (started 52) rest) ≤ 4096 * length rest → length (answers_in (fed 52 s byte) rest) ≤ 4096 * length rest
        → length (cond t (answer_text (ended s) ++ answers_in (started 52) rest) (answers_in (fed 52 s byte) rest)) ≤ 4096 * suc (length rest)
    go true new on =
        rw (length-append (answer_text (ended s)) (answers_in (started 52) rest)) (omega (arith, answer_length (ended s)))
    go false new on = omega arith
