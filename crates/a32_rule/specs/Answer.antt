-- Reading a word and writing fields (02, C-18): 0 with the fields or the word, or 19.
use Rattle.std.specs.Prelude.{ℕ, Bool, cond, ◌&&◌, [], ◌∷◌, Option, Some, None, eqb}
use Rattle.bits.specs.Decide.{needs}
use Rattle.promise.specs.Promise.{Answers}
use Rattle.form.specs.Form as Form
use Rattle.a32_fields.specs.Layout.{fields_word}
use Rattle.a32_rule.specs.Legal.{legal}
use Rattle.a32_fields.specs.Split.{fields_at}
use Rattle.a32_fields.specs.declared.kinds.Fields.{Fields}

-- A32 has one edition, 0
abbrev pub has : ℕ → Fields → Bool
has e f = eqb e 0 && legal f

-- loads and stores as a form; neither reading nor writing has a test of its own
abbrev pub loads_and_stores : Form.Form Fields
loads_and_stores = record { editions = 1; word = fields_word; at = fields_at; has = has; reading = λ w. []; writing = λ f. [] }

-- a word is one of these forms: some legal fields make it (`is_form_exactly`, proofs/Forms.antt)
abbrev pub is_form : ℕ → Bool
is_form w = Form.has_word loads_and_stores 0 w

unfoldable pub decode_of : ℕ → Option Fields
decode_of w = cond (is_form w) (Some (fields_at w)) None

unfoldable pub encode_of : Fields → Option ℕ
encode_of f = cond (legal f) (Some (fields_word f)) None

-- the number of each answer
abbrev pub number_decoded : Option Fields → ℕ
number_decoded (Some f) = 0
number_decoded None = 19

abbrev pub number_encoded : Option ℕ → ℕ
number_encoded (Some w) = 0
number_encoded None = 19

-- THE PROMISES: the answer, and its number
abbrev pub Decoding : ℕ → Option Fields → Type 0
Decoding w = Answers number_decoded (decode_of w) (needs (is_form w) 19 ∷ [])

abbrev pub Encoding : Fields → Option ℕ → Type 0
Encoding f = Answers number_encoded (encode_of f) (needs (legal f) 19 ∷ [])
