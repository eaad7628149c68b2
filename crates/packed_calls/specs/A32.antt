-- The answers of the A32 decoder as single numbers.
use Rattle.std.specs.Prelude.{ℕ, ◌-◌, ◌^◌, Option, Some, None}
use Rattle.a32_words.specs.Words.{form_number}
use Rattle.a32_rule.specs.Answer.{decode_of, encode_of}
use Rattle.a32_fields.specs.declared.kinds.Fields.{Fields}

-- the form of a word that is taken, or all ones
abbrev pub form_or : Option Fields → ℕ
form_or (Some f) = form_number f
form_or None = 2 ^ 64 - 1

abbrev pub a32_form : ℕ → ℕ
a32_form w = form_or (decode_of w)

-- the word that fields are written to, or all ones
abbrev pub instruction_or : Option ℕ → ℕ
instruction_or (Some w) = w
instruction_or None = 2 ^ 64 - 1

abbrev pub encoded_from : Option Fields → ℕ
encoded_from (Some f) = instruction_or (encode_of f)
encoded_from None = 2 ^ 64 - 1

abbrev pub rewritten_a32 : ℕ → ℕ
rewritten_a32 w = encoded_from (decode_of w)
