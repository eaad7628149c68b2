-- Reading and writing as the code comes to them, each with its number.
-- Assumes nothing.
use mathlib.Core.Path.{◌≡◌, refl, ◌∙◌, sym, ap, ap₂, subst}
use mathlib.Core.Bool.{Bool, true, false, cond, ◌&&◌, and-false}
use mathlib.Core.List.{[], ◌∷◌}
use Rattle.std.specs.Prelude.{Option, Some, None}
use Prim.Native.Nat.{ℕ, ◌^◌, ◌<◌}
use borrow.Author.Tests.{eq-eqb, ne_eqb}
use lib.Dec.{eqb}
use Rattle.bits.specs.Decide.{needs}
use Rattle.bits.specs.Inner.{joined_from}
use Rattle.promise.proofs.Promises.{by_tests}
use Rattle.form.specs.Form as Form
use Rattle.a32_fields.specs.Layout.{fields_of, fields_word}
use Rattle.a32_fields.specs.Split.{fields_at}
use Rattle.a32_fields.specs.declared.kinds.Fields.{Fields}
use Rattle.a32_fields.proofs.RoundTrip.{joined_fields, word_fits}
use Rattle.a32_rule.specs.Legal.{legal}
use Rattle.a32_rule.specs.Answer.{is_form, decode_of, encode_of, number_decoded, number_encoded, Decoding, Encoding}
use Rattle.a32_rule.proofs.Having.{legal_fits}

module _ (w : ℕ) where
  -- the test of a word, by the word that is put together
  form_test : is_form w ≡ (eqb (joined_from 0 (fields_of (fields_at w))) w && legal (fields_at w))
  unfolding Form.has_word
  form_test = by (legal (fields_at w)) refl
    where
      by : (b : Bool) → legal (fields_at w) ≡ b
          → (eqb (fields_word (fields_at w)) w && legal (fields_at w)) ≡ (eqb (joined_from 0 (fields_of (fields_at w))) w && legal (fields_at w))
      by true h = ap (λ (n : ℕ). eqb n w && legal (fields_at w)) (sym (joined_fields (fields_at w) (legal_fits (fields_at w) h)))
      by false h =
          ap (λ (b : Bool). eqb (fields_word (fields_at w)) w && b) h ∙ and-false (eqb (fields_word (fields_at w)) w)
          ∙ sym (ap (λ (b : Bool). eqb (joined_from 0 (fields_of (fields_at w))) w && b) h
          ∙ and-false (eqb (joined_from 0 (fields_of (fields_at w))) w))

  -- the test as the code has it
  tested : {f : Fields} {j : ℕ} {l : Bool} → f ≡ fields_at w → j ≡ joined_from 0 (fields_of f) → l ≡ legal f → (eqb j w && l) ≡ is_form w
  tested {f} at put law =
      ap₂ (λ (n : ℕ) (b : Bool). eqb n w && b) put law
      ∙ ap (λ (g : Fields). eqb (joined_from 0 (fields_of g)) w && legal g) at ∙ sym form_test

  pub decode_taken : is_form w ≡ true → decode_of w ≡ Some (fields_at w)
  unfolding decode_of
  decode_taken h = ap (λ (b : Bool). cond b (Some (fields_at w)) None) h

  pub decode_refused : is_form w ≡ false → decode_of w ≡ None
  unfolding decode_of
  decode_refused h = ap (λ (b : Bool). cond b (Some (fields_at w)) None) h

  pub decodes : {d : Option Fields} → d ≡ decode_of w → Decoding w d
  unfolding decode_of
  decodes = by_tests number_decoded (needs (is_form w) None ∷ []) (Some (fields_at w)) refl refl

  -- the two ways in which the code answers
  pub taken : {f : Fields} {j : ℕ} {l : Bool} → f ≡ fields_at w → j ≡ joined_from 0 (fields_of f) → j ≡ w → l ≡ legal f → l ≡ true
      → Decoding w (Some f)
  taken {f} {j} at put same law is =
      decodes (ap Some at ∙ sym (decode_taken (sym (tested at put law) ∙ ap₂ ◌&&◌ (eq-eqb j w same) is)))

  pub unlike : {f : Fields} {j : ℕ} → f ≡ fields_at w → j ≡ joined_from 0 (fields_of f) → (j ≡ w → ⊥) → Decoding w None
  unlike {f} {j} at put other =
      decodes (sym (decode_refused (sym (tested at put refl) ∙ ap (λ (b : Bool). b && legal f) (ne_eqb j w other))))

  pub unlawful : {f : Fields} {j : ℕ} {l : Bool} → f ≡ fields_at w → j ≡ joined_from 0 (fields_of f) → l ≡ legal f → l ≡ false
      → Decoding w None
  unlawful {f} {j} at put law isn't =
      decodes (sym (decode_refused (sym (tested at put law) ∙ ap (λ (b : Bool). eqb j w && b) isn't ∙ and-false (eqb j w))))

module _ (f : Fields) where
  pub encode_word : legal f ≡ true → encode_of f ≡ Some (fields_word f)
  unfolding encode_of
  encode_word h = ap (λ (b : Bool). cond b (Some (fields_word f)) None) h

  pub encode_refused : legal f ≡ false → encode_of f ≡ None
  unfolding encode_of
  encode_refused h = ap (λ (b : Bool). cond b (Some (fields_word f)) None) h

  pub encodes : {e : Option ℕ} → e ≡ encode_of f → Encoding f e
  unfolding encode_of
  encodes = by_tests number_encoded (needs (legal f) None ∷ []) (Some (fields_word f)) refl refl

  pub joined_below : {j : ℕ} → legal f ≡ true → j ≡ joined_from 0 (fields_of f) → j < 2 ^ 32
  joined_below h put = subst (λ (n : ℕ). n < 2 ^ 32) (sym (put ∙ joined_fields f (legal_fits f h))) (word_fits f (legal_fits f h))

  pub written : {j : ℕ} → legal f ≡ true → j ≡ joined_from 0 (fields_of f) → Encoding f (Some j)
  written h put = encodes (ap Some (put ∙ joined_fields f (legal_fits f h)) ∙ sym (encode_word h))

  pub unwritten : legal f ≡ false → Encoding f None
  unwritten h = encodes (sym (encode_refused h))
