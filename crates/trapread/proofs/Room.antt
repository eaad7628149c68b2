-- The answers to a chunk take no more than 128 bytes for each of its bytes.
-- Assumes nothing.
use mathlib.Core.Bool.{Bool, true, false, cond}
use mathlib.Core.List.{List, [], ◌∷◌, ◌++◌}
use Prim.Native.Nat.{ℕ, suc, ◌*◌, ◌≤◌}
use Prim.Native.Char.{code}
use native.Mathlib.Omega.{arith}
use lib.Dec.{eqb}
use lib.ListN.{length, length-append}
use Rattle.edition.specs.Judge.{refusal_number, refusal_mask, refusal_count}
use Rattle.edition.specs.declared.Refusal.{Refusal}
use Rattle.line.specs.Feed.{started, fed, ended}
use Rattle.line.specs.declared.Question.{Question}
use Rattle.line.specs.declared.State.{State}
use Rattle.record.specs.declared.origin.Origin.{Origin}
use Rattle.syndrome.specs.Reading.{read_of}
use Rattle.text.proofs.Numerals.{decimal_length}
use Rattle.trapread.specs.Answer.{refused_text, read_text, answer_text}
use Rattle.trapread.specs.Lines.{answers_in}
use Rattle.record.specs.declared.kinds.Record.{Record}
use Rattle.std.specs.Prelude.{Result, Ok, Err, Option, Some, None}

refused_length : (refusal : Refusal) → length (refused_text refusal) ≤ 128
refused_length refusal =
    let n = decimal_length (refusal_number refusal) in
    let m = decimal_length (refusal_mask refusal) in
    let c = decimal_length (refusal_count refusal) in
    simp length-append (omega arith)

read_length : (answer : Result Record Refusal) → length (read_text answer) ≤ 128
read_length (Ok r) = omega arith
read_length (Err refusal) = refused_length refusal

pub answer_length : (line : Option Question) → length (answer_text line) ≤ 128
answer_length (Some asked) = read_length (read_of Origin.AArch32 asked.edition (record { 0 = asked.word }))
answer_length None = omega arith

pub chunk_length : (s : State 18) (chunk : List ℕ) → length (answers_in s chunk) ≤ 128 * length chunk
chunk_length s [] = omega arith
chunk_length s (byte ∷ rest) = go (eqb byte (code "\n")) (chunk_length (started 18) rest) (chunk_length (fed 18 s byte) rest)
  where
    go : (t : Bool) → length (answers_in (started 18) rest) ≤ 128 * length rest → length (answers_in (fed 18 s byte) rest) ≤ 128 * length rest
        → length (cond t (answer_text (ended s) ++ answers_in (started 18) rest) (answers_in (fed 18 s byte) rest)) ≤ 128 * suc (length rest)
    go true new on = simp length-append (omega (arith, answer_length (ended s)))
    go false new on = omega arith
