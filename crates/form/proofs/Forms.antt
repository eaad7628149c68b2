-- What is asked of a form, once for each form, and what follows of its words: an edition has a word exactly where it has a record that
-- makes the word. Assumes nothing.
use mathlib.Core.Path.{◌≡◌, refl, ◌∙◌, sym, ap, subst}
use mathlib.Core.Bool.{Bool, true, ◌&&◌}
use mathlib.Core.Logic.{◌↔◌}
use Prim.Native.Nat.{ℕ, ◌<◌}
use borrow.Author.Tests.{eq-eqb, eqb-true}
use lib.Dec.{eqb}
use Rattle.bits.specs.Decide.{AllPass}
use Rattle.bits.proofs.Booleans.{and_left, and_right}
use Rattle.bits.proofs.Deciding.{OneOf}
use Rattle.edition.specs.Mask.{mask_below}
use Rattle.edition.proofs.Masks.{mask_same}
use Rattle.form.specs.Form.{Form, has_word}
use Rattle.form.proofs.Calls.{NotSix, Own}

-- a record that some edition has: its edition is one of the form's, it stands at the bits of its own word, and it and its word pass the
-- tests before 5; and no such test answers 6
pub record Sound {R : Type 0} (f : Form R) : Type 0 where
  pub known : (e : ℕ) (r : R) → f.has e r ≡ true → e < f.editions
  pub back : (e : ℕ) (r : R) → f.has e r ≡ true → f.at (f.word r) ≡ r
  pub read_passes : (e : ℕ) (r : R) → f.has e r ≡ true → AllPass (f.reading (f.word r))
  pub read_early : (w : ℕ) → OneOf NotSix (f.reading w)
  pub write_passes : (e : ℕ) (r : R) → f.has e r ≡ true → AllPass (f.writing r)
  pub write_early : (r : R) → OneOf NotSix (f.writing r)

module _ {R : Type 0} (f : Form R) (s : Sound f) where
  -- a record that some edition has stands at the bits of a word that it makes
  pub at_record : (e : ℕ) (r : R) → f.has e r ≡ true → (w : ℕ) → f.word r ≡ w → f.at w ≡ r
  at_record e r h w same = subst (λ (x : ℕ). f.at x ≡ r) same (s.back e r h)

  -- two records that editions have and that make one word are one record
  pub same_record : (a b : ℕ) (r t : R) → f.has a r ≡ true → f.has b t ≡ true → f.word r ≡ f.word t → r ≡ t
  same_record a b r t hr ht same = sym (at_record a r hr (f.word t) same) ∙ at_record b t ht (f.word t) refl

  -- at the word of a record that some edition has, an edition has the word exactly when it has the record
  pub word_as_record : (a : ℕ) (r : R) → f.has a r ≡ true → (w : ℕ) → f.word r ≡ w → (x : ℕ) → has_word f x w ≡ f.has x r
  unfolding has_word
  word_as_record a r h w same x =
      ap (λ (t : R). eqb (f.word t) w && f.has x t) (at_record a r h w same)
      ∙ ap (λ (b : Bool). b && f.has x r) (eq-eqb (f.word r) w same)

  pub has_word_lem : (e : ℕ) (r : R) → f.has e r ≡ true → (w : ℕ) → f.word r ≡ w → has_word f e w ≡ true
  has_word_lem e r h w same = word_as_record e r h w same e ∙ h

  -- the record at the bits of a word that an edition has is one that the edition has, and it makes the word
  pub word_record : (e w : ℕ) → has_word f e w ≡ true → (f.has e (f.at w) ≡ true) × (f.word (f.at w) ≡ w)
  unfolding has_word
  word_record e w h =
      let made = eqb (f.word (f.at w)) w in
      let had = f.has e (f.at w) in
      (and_right made had h, eqb-true (f.word (f.at w)) w (and_left made had h))

  -- AN EDITION HAS A WORD exactly when it has a record that makes the word
  pub has_word_exactly : (e w : ℕ) → (has_word f e w ≡ true) ↔ ((r : R) × (f.has e r ≡ true) × (f.word r ≡ w))
  has_word_exactly e w =
      (λ h. let found = word_record e w h in (f.at w, found.0, found.1), λ r. has_word_lem e r.0 r.1 w r.2)

  -- the editions that have the word of a record are those that have the record
  pub word_mask_lem : (a : ℕ) (r : R) → f.has a r ≡ true → (w : ℕ) → f.word r ≡ w
      → mask_below f.editions (λ x. has_word f x w) ≡ mask_below f.editions (λ x. f.has x r)
  word_mask_lem a r h w same =
      mask_same f.editions (λ x. has_word f x w) (λ x. f.has x r) (λ x l. word_as_record a r h w same x)

  -- reading and writing as calls
  pub own_reading : (w : ℕ) → Own f.editions (λ x. has_word f x w) (f.reading w)
  own_reading w =
      record {
        passes =
            λ x l h. let found = word_record x w h in
            subst (λ (v : ℕ). AllPass (f.reading v)) found.1 (s.read_passes x (f.at w) found.0);
        early = s.read_early w;
      }

  pub own_writing : (r : R) → Own f.editions (λ x. f.has x r) (f.writing r)
  own_writing r = record { passes = λ x l h. s.write_passes x r h; early = s.write_early r }
