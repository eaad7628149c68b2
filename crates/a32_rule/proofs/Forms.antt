-- The laws of forms for A32 loads and stores: a word is taken exactly when some legal fields make it, writing them gives the same word, two
-- legal sets of fields that make one word are one, and each number comes exactly when its test says so.
-- Assumes nothing.
use mathlib.Core.Path.{◌≡◌, refl, ◌∙◌, sym, ap}
use mathlib.Core.Bool.{Bool, true, false}
use mathlib.Core.List.{[], ◌∷◌}
use mathlib.Core.Logic.{◌↔◌}
use Rattle.std.specs.Prelude.{Some, None}
use Prim.Native.Nat.{ℕ}
use Rattle.bits.specs.Decide.{needs, FirstFails}
use Rattle.bits.proofs.Arms.{absurd_answer}
use Rattle.promise.proofs.Promises.{first_exactly}
use Rattle.form.proofs.Forms as Forms
use Rattle.a32_fields.specs.Layout.{fields_word}
use Rattle.a32_fields.specs.Split.{fields_at}
use Rattle.a32_fields.specs.declared.kinds.Fields.{Fields}
use Rattle.a32_rule.specs.Legal.{legal}
use Rattle.a32_rule.specs.Answer.{loads_and_stores, is_form, decode_of, encode_of, number_decoded, number_encoded}
use Rattle.a32_rule.proofs.Instance.{has_legal, sound}
use Rattle.a32_rule.proofs.Answers.{decode_taken, decode_refused, encode_word, encode_refused, decodes, encodes}

-- A WORD IS ONE OF THESE FORMS exactly when some legal fields make it
pub is_form_exactly : (w : ℕ) → (is_form w ≡ true) ↔ ((f : Fields) × (legal f ≡ true) × (fields_word f ≡ w))
is_form_exactly w =
    let law = Forms.has_word_exactly loads_and_stores sound 0 w in
    (λ h. let found = law.0 h in (found.0, has_legal 0 found.0 found.1, found.2), λ f. law.1 f)

-- two legal sets of fields that make one word are one
pub same_fields : (f g : Fields) → legal f ≡ true → legal g ≡ true → fields_word f ≡ fields_word g → f ≡ g
same_fields f g hf hg same = Forms.same_record loads_and_stores sound 0 0 f g hf hg same

-- READING: the answer is some fields exactly when they are legal and make the word
pub decode_exactly : (w : ℕ) (f : Fields) → (decode_of w ≡ Some f) ↔ ((legal f ≡ true) × (fields_word f ≡ w))
decode_exactly w f = (by (is_form w) refl, back)
  where
    by : (b : Bool) → is_form w ≡ b → decode_of w ≡ Some f → (legal f ≡ true) × (fields_word f ≡ w)
    by true h t =
        let found = Forms.word_record loads_and_stores sound 0 w h in
        let q = decode_taken w h in
        let same : fields_at w ≡ f = cc (t, q) in
        (ap legal (sym same) ∙ has_legal 0 (fields_at w) found.0, ap fields_word (sym same) ∙ found.1)
    by false h t = let q = decode_refused w h in absurd_answer (cc (t, q))

    back : (legal f ≡ true) × (fields_word f ≡ w) → decode_of w ≡ Some f
    back h =
        decode_taken w ((is_form_exactly w).1 (f, h.0, h.1))
        ∙ ap Some (Forms.at_record loads_and_stores sound 0 f h.0 w h.1)

-- WRITING: the answer is a word exactly when the fields are legal and make it
pub encode_exactly : (f : Fields) (w : ℕ) → (encode_of f ≡ Some w) ↔ ((legal f ≡ true) × (fields_word f ≡ w))
encode_exactly f w = (by (legal f) refl, λ h. encode_word f h.0 ∙ ap Some h.1)
  where
    by : (b : Bool) → legal f ≡ b → encode_of f ≡ Some w → (legal f ≡ true) × (fields_word f ≡ w)
    by true h t = let q = encode_word f h in (h, cc (t, q))
    by false h t = let q = encode_refused f h in absurd_answer (cc (t, q))

-- what a decoded word's answer says of the word
pub taken_form : (w : ℕ) (f : Fields) → decode_of w ≡ Some f → (is_form w ≡ true) × (fields_at w ≡ f)
taken_form w f t =
    let h = (decode_exactly w f).0 t in
    let is = (is_form_exactly w).1 (f, h.0, h.1) in
    (is, Forms.at_record loads_and_stores sound 0 f h.0 w h.1)

pub refused_form : (w : ℕ) → decode_of w ≡ None → is_form w ≡ false
refused_form w t = by (is_form w) refl
  where
    by : (b : Bool) → is_form w ≡ b → is_form w ≡ false
    by true h = let q = decode_taken w h in absurd_answer (cc (t, q))
    by false h = h

-- a word is read as some fields exactly when these are written to the same word
pub decode_as_encode : (w : ℕ) (f : Fields) → (decode_of w ≡ Some f) ↔ (encode_of f ≡ Some w)
decode_as_encode w f = (
  λ t. (encode_exactly f w).1 ((decode_exactly w f).0 t),
  λ t. (decode_exactly w f).1 ((encode_exactly f w).0 t),
)

-- each number exactly: 0 or 19
pub decode_refused_exactly : (w k : ℕ) → (number_decoded (decode_of w) ≡ k) ↔ FirstFails k (needs (is_form w) 19 ∷ [])
decode_refused_exactly w = first_exactly (needs (is_form w) 19 ∷ []) tt (decodes w refl)

pub encode_refused_exactly : (f : Fields) (k : ℕ) → (number_encoded (encode_of f) ≡ k) ↔ FirstFails k (needs (legal f) 19 ∷ [])
encode_refused_exactly f = first_exactly (needs (legal f) 19 ∷ []) tt (encodes f refl)
