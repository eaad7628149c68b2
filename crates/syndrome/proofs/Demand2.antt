-- Demand 2 for words: in each edition a syndrome is taken exactly when some record that the edition has writes to it, and writing that
-- record gives the same word.
-- Assumes nothing.
use mathlib.Core.Path.{◌≡◌, subst}
use mathlib.Core.Bool.{true, false}
use mathlib.Core.Logic.{◌↔◌}
use Prim.Native.Nat.{ℕ}
use Rattle.std.specs.Prelude.{Ok}
use Rattle.bits.specs.Field.{bit_of}
use Rattle.form.proofs.Forms as Forms
use Rattle.form.proofs.Demand2 as Forms2
use Rattle.form.proofs.Shows.{own_shows}
use Rattle.layout.specs.Explained.{explained}
use Rattle.layout.specs.Fields.{fields_of, record_word}
use Rattle.layout.proofs.RoundTrip.{fields_ordered}
use Rattle.layout.proofs.Unexplained as Layouts
use Rattle.record.specs.declared.origin.Origin.{Origin}
use Rattle.registers.specs.declared.Esr.{Esr}
use Rattle.record.specs.declared.kinds.Record.{Record}
use Rattle.rule.specs.Has.{has}
use Rattle.rule.proofs.Having.{has_fits}
use Rattle.syndrome.specs.Form.{long_form}
use Rattle.syndrome.specs.Reading.{has_word, read_of}
use Rattle.syndrome.specs.Writing.{write_of}
use Rattle.syndrome.proofs.Instance.{sound, written_shows}

module _ (o : Origin) where
  -- READING: the answer is a record exactly when the edition has it and it makes the word
  pub read_exactly : (e : ℕ) (esr : Esr) (r : Record) → (read_of o e esr ≡ Ok r) ↔ ((has o e r ≡ true) × (record_word r ≡ esr.0))
  unfolding read_of
  read_exactly e esr r = Forms2.read_exactly (long_form o) (sound o) own_shows written_shows e esr.0 r

  -- WRITING: the answer is a word exactly when the edition has the record and the record makes the word
  pub write_exactly : (e w : ℕ) (r : Record) → (write_of o e r ≡ Ok (record { 0 = w })) ↔ ((has o e r ≡ true) × (record_word r ≡ w))
  unfolding write_of
  write_exactly e w r = Forms2.write_exactly (long_form o) (sound o) own_shows written_shows e w r

  -- DEMAND 2: a word is read as a record exactly when that record is written to the same word
  pub read_as_written : (e : ℕ) (esr : Esr) (r : Record) → (read_of o e esr ≡ Ok r) ↔ (write_of o e r ≡ Ok esr)
  unfolding read_of write_of
  read_as_written e esr r = Forms2.read_as_written (long_form o) (sound o) own_shows written_shows e esr.0 r

  -- a word is taken exactly when some record writes to it
  pub taken_exactly : (e : ℕ) (esr : Esr) → ((r : Record) × (read_of o e esr ≡ Ok r)) ↔
      ((r : Record) × (write_of o e r ≡ Ok esr))
  unfolding read_of write_of
  taken_exactly e esr = Forms2.taken_exactly (long_form o) (sound o) own_shows written_shows e esr.0

  -- an edition has a word exactly when it has a record that makes the word
  pub has_word_exactly : (e w : ℕ) → (has_word o e w ≡ true) ↔ ((r : Record) × (has o e r ≡ true) × (record_word r ≡ w))
  has_word_exactly = Forms.has_word_exactly (long_form o) (sound o)

  -- two records that editions have and that make one word are one record
  pub same_record : (a b : ℕ) (r s : Record) → has o a r ≡ true → has o b s ≡ true → record_word r ≡ record_word s → r ≡ s
  same_record = Forms.same_record (long_form o) (sound o)

  -- NO OTHER BIT: a bit of a word that is taken, in which no field of its record stands, is 0
  pub unexplained_clear : (e n : ℕ) (esr : Esr) (r : Record) → read_of o e esr ≡ Ok r → explained n (fields_of r) ≡ false
      → bit_of esr.0 n ≡ false
  unexplained_clear e n esr r taken out =
      let had = (read_exactly e esr r).0 taken in
      subst (λ (w : ℕ). bit_of w n ≡ false) had.1
      (Layouts.unexplained_clear 32 n (fields_of r) (fields_ordered r) (has_fits o e r had.0) out)
