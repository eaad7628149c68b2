-- What stands in a row: its word, spelled as one number, and its numbers, which are 0 where it has none.
use Rattle.std.specs.Prelude.{ℕ, zero, suc, ◌+◌, ◌*◌, ◌%◌, ◌^◌, Bool, true, ◌&&◌, ◌||◌, List, [], ◌∷◌, eqb, ltb, leb, length, get_or}
use Rattle.rows.specs.declared.row.Row.{Row}

-- a word with one letter more: its last eight letters are a number of 64 bits
abbrev pub with_letter : ℕ → ℕ → ℕ
with_letter word letter = word % 2 ^ 56 * 256 + letter

-- the word that the first n letters spell
abbrev pub spelled_below : List ℕ → ℕ → ℕ
spelled_below l zero = 0
spelled_below l (suc n) = with_letter (spelled_below l n) (get_or l n 0)

abbrev pub spells : Row → List ℕ → Bool
spells r l = eqb r.word (spelled_below l (length l))

abbrev pub number_at : Row → ℕ → ℕ
number_at r i = get_or r.numbers i 0

abbrev pub is_word : ℕ → Bool
is_word n = ltb n (2 ^ 32)

abbrev pub word_at : Row → ℕ → ℕ
word_at r i = number_at r i % 2 ^ 32

-- of the first n numbers, those from a place on have 32 bits
abbrev pub words_below : Row → ℕ → ℕ → Bool
words_below r from zero = true
words_below r from (suc n) = words_below r from n && (ltb n from || is_word (number_at r n))

-- the row has every place before `to`, and a word in each from `from` on
abbrev pub are_words : Row → ℕ → ℕ → Bool
are_words r from to = leb to r.count && words_below r from to

abbrev pub is_words : Row → ℕ → Bool
is_words r n = eqb r.count n && are_words r 0 n

-- n words from a place on
abbrev pub words_at : Row → ℕ → ℕ → List ℕ
words_at r from zero = []
words_at r from (suc n) = word_at r from ∷ words_at r (suc from) n
