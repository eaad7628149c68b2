-- Demand 3 for words and records, in every form: whatever word one edition puts out for a record, reading it in another, or in the same,
-- gives back that very record exactly when the reading edition has it, and otherwise refusal 6 with the editions that have the record, and
-- their number. Assumes nothing.
use mathlib.Core.Path.{◌≡◌, refl, ◌∙◌, sym, ap}
use mathlib.Core.Bool.{Bool, true, false}
use Prim.Native.Nat.{ℕ}
use lib.Count.{ones}
use lib.Dec.{ltb}
use Rattle.std.specs.Prelude.{Result, Ok, Err}
use Rattle.edition.specs.declared.Refusal.TheVariants.{OtherEditions}
use Rattle.edition.specs.declared.Refusal.{Refusal}
use Rattle.form.specs.Call.{others}
use Rattle.form.specs.Form.{Form, has_word, read_as, write_as, read_back}
use Rattle.form.proofs.Calls.{call_unknown, others_six}
use Rattle.form.proofs.Forms.{Sound, same_record, word_as_record, has_word_lem, word_mask_lem, own_reading}
use Rattle.form.proofs.Shows.{Shows, shown_alike}
use Rattle.form.proofs.Demand2.{written_had, taken_had, had_taken}

module _ {R : Type 0} (f : Form R) (s : Sound f) where
  -- the edition a puts out the word w for the record r
  module _ (a b w : ℕ) (r : R) (put : write_as f a r ≡ Ok w) where
    had : f.has a r ≡ true
    had = (written_had f s a w r put).0

    made : f.word r ≡ w
    made = (written_had f s a w r put).1

    -- an edition that has the record gives it back
    back : f.has b r ≡ true → read_as f b w ≡ Ok r
    back h = had_taken f s b w r h made

    -- and no other edition gives back any record
    back_only : (t : R) → read_as f b w ≡ Ok t → f.has b r ≡ true
    back_only t took =
        let again = taken_had f s b w t took in
        ap (f.has b) (same_record f s a b r t had again.0 (made ∙ sym again.1)) ∙ again.0

    -- an edition that doesn't have the record answers 6, with the editions that have it and their number
    six : ltb b f.editions ≡ true → f.has b r ≡ false → read_as f b w ≡ Err (others f.editions (λ x. f.has x r))
    six is hasn't =
        others_six f.editions (λ x. has_word f x w) (f.reading w) b (f.at w) (own_reading f s w)
        (is, word_as_record f s a r had w made b ∙ hasn't, (a, s.known a r had, has_word_lem f s a r had w made))
        ∙ ap (λ (m : ℕ). Err (OtherEditions m (ones m))) (word_mask_lem f s a r had w made)

    as_read_back : read_as f b w ≡ read_back f b r
    as_read_back = by (ltb b f.editions) refl (f.has b r) refl
      where
        by : (k : Bool) → ltb b f.editions ≡ k → (h : Bool) → f.has b r ≡ h → read_as f b w ≡ read_back f b r
        by true is true h = back h ∙ simp (is, h)
        by true is false hasn't = six is hasn't ∙ simp (is, hasn't)
        by false isn't h same = call_unknown f.editions (λ x. has_word f x w) (f.reading w) b (f.at w) isn't ∙ simp isn't

  -- the same in the answers of code
  module _ {X Y : Type 0} {shown : Result R Refusal → X} {means : X → Result R Refusal} (reads : Shows shown means)
      {put : Result ℕ Refusal → Y} {told : Y → Result ℕ Refusal} (writes : Shows put told) where
    module _ (a b w : ℕ) (r : R) (out : put (write_as f a r) ≡ put (Ok w)) where
      written : write_as f a r ≡ Ok w
      written = shown_alike writes _ _ out

      pub given_back : f.has b r ≡ true → shown (read_as f b w) ≡ shown (Ok r)
      given_back h = ap shown (back a b w r written h)

      pub given_back_only : (t : R) → shown (read_as f b w) ≡ shown (Ok t) → f.has b r ≡ true
      given_back_only t took = back_only a b w r written t (shown_alike reads _ _ took)

      pub refused_six : ltb b f.editions ≡ true → f.has b r ≡ false
          → shown (read_as f b w) ≡ shown (Err (others f.editions (λ x. f.has x r)))
      refused_six is hasn't = ap shown (six a b w r written is hasn't)

      -- DEMAND 3 in one equation
      pub read_back_lem : shown (read_as f b w) ≡ shown (read_back f b r)
      read_back_lem = ap shown (as_read_back a b w r written)
