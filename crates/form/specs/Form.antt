-- A form: its records, the word of each, which of its editions have it, the record at a word's bits, and the tests that are reading's and
-- writing's own. The record at a word's bits is free of editions: a word has one, whatever the edition.
use Rattle.std.specs.Prelude.{ℕ, Bool, cond, ◌&&◌, List, eqb, ltb, Result, Ok, Err}
use Rattle.bits.specs.Decide.{Test}
use Rattle.edition.specs.declared.Refusal.{Refusal}
use Rattle.edition.specs.declared.Refusal.TheVariants.{UnknownEdition}
use Rattle.form.specs.Call.{others, call_of}

pub record Form (R : Type 0) : Type 0 where
  -- how many editions there are: 0 to one below it
  pub editions : ℕ
  -- the word of a record, and the record at a word's bits
  pub word : R → ℕ
  pub at : ℕ → R
  -- an edition has a record
  pub has : ℕ → R → Bool
  -- what reading tests of a word, and writing of a record, before they ask for the edition
  pub reading : ℕ → List (Test Refusal)
  pub writing : R → List (Test Refusal)

-- an edition has a word (01, 'Editions'): it has the record at the word's bits, and that record makes the word
unfoldable pub has_word : {R : Type 0} → Form R → ℕ → ℕ → Bool
has_word f e w = eqb (f.word (f.at w)) w && f.has e (f.at w)

-- reading a word
abbrev pub read_as : {R : Type 0} → Form R → ℕ → ℕ → Result R Refusal
read_as f e w = call_of f.editions (λ x. has_word f x w) (f.reading w) e (f.at w)

-- writing a record
abbrev pub write_as : {R : Type 0} → Form R → ℕ → R → Result ℕ Refusal
write_as f e r = call_of f.editions (λ x. f.has x r) (f.writing r) e (f.word r)

-- DEMAND 2: a word that is read and written again: the same word where it is taken, or its refusal
abbrev pub again : {R : Type 0} → ℕ → Result R Refusal → Result ℕ Refusal
again w (Ok r) = Ok w
again w (Err refusal) = Err refusal

-- DEMAND 3: what the reader's edition makes of a word that some edition put out for a record: that very record exactly when it has the
-- record, and otherwise refusal 6 with the editions that have it, and their number; a reader's edition that there is none of is refused 1
abbrev pub read_back : {R : Type 0} → Form R → ℕ → R → Result R Refusal
read_back f reader r =
    cond (ltb reader f.editions) (cond (f.has reader r) (Ok r) (Err (others f.editions (λ x. f.has x r))))
    (Err UnknownEdition)

-- a record that one edition writes and another reads: the writer's refusal, or what the reader makes of the word; both in the answers of
-- code
abbrev pub carried_from : {R X : Type 0} → (Refusal → X) → (Result R Refusal → X) → Form R → ℕ → R → Result ℕ Refusal → X
carried_from unwritten read f reader r (Ok w) = read (read_back f reader r)
carried_from unwritten read f reader r (Err refusal) = unwritten refusal

abbrev pub carried_as : {R X : Type 0} → (Refusal → X) → (Result R Refusal → X) → Form R → ℕ → ℕ → R → X
carried_as unwritten read f writer reader r = carried_from unwritten read f reader r (write_as f writer r)
