-- Reading and writing a word of the short form, and the change of a record to the long form: the answer of the call by value, as numbers
-- and words. A refusal carries no record and no word, and only 6 a mask and a count.
use Rattle.std.specs.Prelude.{ℕ, ◌≡◌, List, [], ◌∷◌, Result, Ok, Err}
use Rattle.edition.specs.declared.Refusal.{Refusal}
use Rattle.registers.specs.declared.Hsr.{Hsr}
use Rattle.record.specs.declared.kinds.Record.{Record as Long}
use Rattle.short_record.specs.declared.kinds.Record.{Record}
use Rattle.record_words.specs.Words.{zeros}
use Rattle.record_words.specs.Words as long
use Rattle.short_words.specs.Words.{words_of}
use Rattle.short.specs.Answer.{read_said, written_said}
use Rattle.widen.specs.Widening.{number_widened}
use Rattle.widen.specs.declared.WidenRefusal.{WidenRefusal}

abbrev pub record_read : Result Record Refusal → List ℕ
record_read (Ok r) = words_of r
record_read (Err refusal) = zeros 16

-- `w` is the record, and `e` the mask and the count
pub record ReadWords (a : Result Record Refusal) (n : ℕ) (w e : List ℕ) : Type 0 where
  pub answer : n ≡ read_said.number a
  pub words : w ≡ record_read a
  pub editions : e ≡ read_said.mask a ∷ read_said.count a ∷ []

abbrev pub word_written : Result Hsr Refusal → ℕ
word_written (Ok hsr) = hsr.0
word_written (Err refusal) = 0

pub record WrittenWords (a : Result Hsr Refusal) (n hsr : ℕ) (e : List ℕ) : Type 0 where
  pub answer : n ≡ written_said.number a
  pub word : hsr ≡ word_written a
  pub editions : e ≡ written_said.mask a ∷ written_said.count a ∷ []

abbrev pub long_words : Result Long WidenRefusal → List ℕ
long_words (Ok r) = long.words_of r
long_words (Err refusal) = zeros 16

pub record WidenedWords (a : Result Long WidenRefusal) (n : ℕ) (w : List ℕ) : Type 0 where
  pub answer : n ≡ number_widened a
  pub words : w ≡ long_words a
