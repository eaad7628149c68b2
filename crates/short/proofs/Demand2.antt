-- Demand 2 for words: in each short edition a word is taken exactly when some record that the edition has writes to it, and writing that
-- record gives the same word.
-- Assumes nothing.
use mathlib.Core.Path.{◌≡◌, subst}
use mathlib.Core.Bool.{true, false}
use mathlib.Core.Logic.{◌↔◌}
use Prim.Native.Nat.{ℕ}
use Rattle.std.specs.Prelude.{Ok}
use Rattle.bits.specs.Field.{bit_of}
use Rattle.form.proofs.Forms as Forms
use Rattle.form.proofs.Demand2 as Forms2
use Rattle.form.proofs.Shows.{own_shows}
use Rattle.layout.specs.Explained.{explained}
use Rattle.layout.proofs.Unexplained as Layouts
use Rattle.short_layout.specs.Fields.{fields_of, record_word}
use Rattle.short_layout.proofs.RoundTrip.{fields_ordered}
use Rattle.registers.specs.declared.Hsr.{Hsr}
use Rattle.short_record.specs.declared.kinds.Record.{Record}
use Rattle.short_rule.specs.Has.{has}
use Rattle.short_rule.proofs.Having.{has_fits}
use Rattle.short.specs.Form.{short_form}
use Rattle.short.specs.Reading.{has_word, read_of}
use Rattle.short.specs.Writing.{write_of}
use Rattle.short.proofs.Instance.{sound, written_shows}

-- READING: the answer is a record exactly when the edition has it and it makes the word
pub read_exactly : (e : ℕ) (hsr : Hsr) (r : Record) → (read_of e hsr ≡ Ok r) ↔ ((has e r ≡ true) × (record_word r ≡ hsr.0))
unfolding read_of
read_exactly e hsr r = Forms2.read_exactly short_form sound own_shows written_shows e hsr.0 r

-- WRITING: the answer is a word exactly when the edition has the record and the record makes the word
pub write_exactly : (e w : ℕ) (r : Record) → (write_of e r ≡ Ok (record { 0 = w })) ↔ ((has e r ≡ true) × (record_word r ≡ w))
unfolding write_of
write_exactly e w r = Forms2.write_exactly short_form sound own_shows written_shows e w r

-- DEMAND 2: a word is read as a record exactly when that record is written to the same word
pub read_as_written : (e : ℕ) (hsr : Hsr) (r : Record) → (read_of e hsr ≡ Ok r) ↔ (write_of e r ≡ Ok hsr)
unfolding read_of write_of
read_as_written e hsr r = Forms2.read_as_written short_form sound own_shows written_shows e hsr.0 r

-- a word is taken exactly when some record writes to it
pub taken_exactly : (e : ℕ) (hsr : Hsr) → ((r : Record) × (read_of e hsr ≡ Ok r)) ↔ ((r : Record) × (write_of e r ≡ Ok hsr))
unfolding read_of write_of
taken_exactly e hsr = Forms2.taken_exactly short_form sound own_shows written_shows e hsr.0

-- an edition has a word exactly when it has a record that makes the word
pub has_word_exactly : (e w : ℕ) → (has_word e w ≡ true) ↔ ((r : Record) × (has e r ≡ true) × (record_word r ≡ w))
has_word_exactly = Forms.has_word_exactly short_form sound

-- two records that editions have and that make one word are one record
pub same_record : (a b : ℕ) (r s : Record) → has a r ≡ true → has b s ≡ true → record_word r ≡ record_word s → r ≡ s
same_record = Forms.same_record short_form sound

-- NO OTHER BIT: a bit of a word that is taken, in which no field of its record stands, is 0
pub unexplained_clear : (e n : ℕ) (hsr : Hsr) (r : Record) → read_of e hsr ≡ Ok r → explained n (fields_of r) ≡ false
    → bit_of hsr.0 n ≡ false
unexplained_clear e n hsr r taken out =
    let had = (read_exactly e hsr r).0 taken in
    subst (λ (w : ℕ). bit_of w n ≡ false) had.1
    (Layouts.unexplained_clear 32 n (fields_of r) (fields_ordered r) (has_fits e r had.0) out)
