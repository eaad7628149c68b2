-- Demand 2 for words, in every form: in each edition a word is taken exactly when some record that the edition has writes to it, and
-- writing that record gives the same word.
-- Assumes nothing.
use mathlib.Core.Path.{◌≡◌, ◌∙◌, sym, ap}
use mathlib.Core.Bool.{true}
use mathlib.Core.Logic.{◌↔◌}
use Prim.Native.Nat.{ℕ}
use Rattle.std.specs.Prelude.{Result, Ok}
use Rattle.edition.specs.declared.Refusal.{Refusal}
use Rattle.form.specs.Form.{Form, has_word, read_as, write_as}
use Rattle.form.proofs.Calls.{given_had, had_given}
use Rattle.form.proofs.Forms.{Sound, at_record, has_word_lem, word_record, own_reading, own_writing}
use Rattle.form.proofs.Shows.{Shows, shown_alike}

module _ {R : Type 0} (f : Form R) (s : Sound f) where
  -- what is taken, the edition has, and it makes the word
  pub taken_had : (e w : ℕ) (r : R) → read_as f e w ≡ Ok r → (f.has e r ≡ true) × (f.word r ≡ w)
  taken_had e w r t =
      let had = given_had f.editions (λ x. has_word f x w) (f.reading w) e (f.at w) (own_reading f s w) r t in
      let found = word_record f s e w had.1 in
      (ap (f.has e) (sym had.2) ∙ found.0, ap f.word (sym had.2) ∙ found.1)

  -- what the edition has is taken at the word that it makes
  pub had_taken : (e w : ℕ) (r : R) → f.has e r ≡ true → f.word r ≡ w → read_as f e w ≡ Ok r
  had_taken e w r h same =
      had_given f.editions (λ x. has_word f x w) (f.reading w) e (f.at w) (own_reading f s w) (s.known e r h)
      (has_word_lem f s e r h w same)
      ∙ ap Ok (at_record f s e r h w same)

  -- what is written, the edition has, and the word is the one that it makes
  pub written_had : (e w : ℕ) (r : R) → write_as f e r ≡ Ok w → (f.has e r ≡ true) × (f.word r ≡ w)
  written_had e w r t =
      let had = given_had f.editions (λ x. f.has x r) (f.writing r) e (f.word r) (own_writing f s r) w t in
      (had.1, had.2)

  pub had_written : (e w : ℕ) (r : R) → f.has e r ≡ true → f.word r ≡ w → write_as f e r ≡ Ok w
  had_written e w r h same =
      had_given f.editions (λ x. f.has x r) (f.writing r) e (f.word r) (own_writing f s r) (s.known e r h) h ∙ ap Ok same

  -- the same in the answers of code
  module _ {X Y : Type 0} {shown : Result R Refusal → X} {means : X → Result R Refusal} (reads : Shows shown means)
      {put : Result ℕ Refusal → Y} {told : Y → Result ℕ Refusal} (writes : Shows put told) where
    -- READING: the answer is a record exactly when the edition has it and it makes the word
    pub read_exactly : (e w : ℕ) (r : R) → (shown (read_as f e w) ≡ shown (Ok r)) ↔ ((f.has e r ≡ true) × (f.word r ≡ w))
    read_exactly e w r = (λ t. taken_had e w r (shown_alike reads _ _ t), λ h. ap shown (had_taken e w r h.0 h.1))

    -- WRITING: the answer is a word exactly when the edition has the record and the record makes the word
    pub write_exactly : (e w : ℕ) (r : R) → (put (write_as f e r) ≡ put (Ok w)) ↔ ((f.has e r ≡ true) × (f.word r ≡ w))
    write_exactly e w r = (λ t. written_had e w r (shown_alike writes _ _ t), λ h. ap put (had_written e w r h.0 h.1))

    -- DEMAND 2: a word is read as a record exactly when that record is written to the same word
    pub read_as_written : (e w : ℕ) (r : R) → (shown (read_as f e w) ≡ shown (Ok r)) ↔ (put (write_as f e r) ≡ put (Ok w))
    read_as_written e w r = (λ t. (write_exactly e w r).1 ((read_exactly e w r).0 t), λ t. (read_exactly e w r).1 ((write_exactly e w r).0 t))

    -- a word is taken exactly when some record writes to it
    pub taken_exactly : (e w : ℕ)
        → ((r : R) × (shown (read_as f e w) ≡ shown (Ok r))) ↔ ((r : R) × (put (write_as f e r) ≡ put (Ok w)))
    taken_exactly e w = (λ t. (t.0, (read_as_written e w t.0).0 t.1), λ t. (t.0, (read_as_written e w t.0).1 t.1))
