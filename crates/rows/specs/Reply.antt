-- Replies: numbers, one after the other, of which there are at most 256.
use Rattle.std.specs.Prelude.{ℕ, zero, suc, ◌+◌, cond, List, eqb, ltb, get_or, set, replicate}
use Rattle.rows.specs.declared.reply.Reply.{Reply}

abbrev pub no_row : Reply
no_row = record { count = 0; numbers = replicate 256 0 }

unfoldable pub with_one : Reply → ℕ → Reply
with_one r n = cond (ltb r.count 256) (record { count = r.count + 1; numbers = set r.numbers r.count n }) r

-- with the first n of a list
abbrev pub with_first : Reply → List ℕ → ℕ → Reply
with_first r l zero = r
with_first r l (suc n) = with_one (with_first r l n) (get_or l n 0)

-- a word after its place, where it isn't the one that stood there before
abbrev pub with_change : Reply → ℕ → ℕ → ℕ → Reply
with_change r place before after = cond (eqb before after) r (with_one (with_one r place) after)

-- those changes among the first n words of two lists
abbrev pub with_changes : Reply → List ℕ → List ℕ → ℕ → Reply
with_changes r b a zero = r
with_changes r b a (suc n) = with_change (with_changes r b a n) n (get_or b n 0) (get_or a n 0)
