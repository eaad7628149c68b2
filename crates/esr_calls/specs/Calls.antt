-- Reading and writing a syndrome word: the answer of the call by value, as numbers and words. A refusal carries no record and no word, and
-- only 6 a mask and a count (01, 'Numbers a call may answer').
use Rattle.std.specs.Prelude.{ℕ, ◌≡◌, cond, List, [], ◌∷◌, eqb, Result, Ok, Err}
use Rattle.edition.specs.declared.Refusal.{Refusal}
use Rattle.registers.specs.declared.Esr.{Esr}
use Rattle.record.specs.declared.origin.Origin.{Origin}
use Rattle.record.specs.declared.kinds.Record.{Record}
use Rattle.record_words.specs.Words.{zeros, words_of}
use Rattle.syndrome.specs.Answer.{read_said, written_said}

-- 0 is AArch32, and every other number AArch64
abbrev pub origin_of : ℕ → Origin
origin_of n = cond (eqb n 0) Origin.AArch32 Origin.AArch64

abbrev pub record_read : Result Record Refusal → List ℕ
record_read (Ok r) = words_of r
record_read (Err refusal) = zeros 16

-- `w` is the record, and `e` the mask and the count
pub record ReadWords (a : Result Record Refusal) (n : ℕ) (w e : List ℕ) : Type 0 where
  pub answer : n ≡ read_said.number a
  pub words : w ≡ record_read a
  pub editions : e ≡ read_said.mask a ∷ read_said.count a ∷ []

abbrev pub word_written : Result Esr Refusal → ℕ
word_written (Ok esr) = esr.0
word_written (Err refusal) = 0

pub record WrittenWords (a : Result Esr Refusal) (n esr : ℕ) (e : List ℕ) : Type 0 where
  pub answer : n ≡ written_said.number a
  pub word : esr ≡ word_written a
  pub editions : e ≡ written_said.mask a ∷ written_said.count a ∷ []
