use Rattle.std.proofs.Common.{◌≡◌, ℕ, ◌+◌, ◌-◌, ◌≤◌, ◌<◌, List, [], length, get_or, arith}
use Rattle.text.specs.Append.{Extends}
use Rattle.text.specs.declared.Text.{Text}
use Rattle.text.proofs.Appending.{extends_none}
use Rattle.names.specs.Table.{labels, sources, lists, texts, starts_from}
use Rattle.names.proofs.Tables.{lists_many, list_size, list_within, list_entry, past_end}
use Rattle.names.proofs.table.entry.Goals as goal

-- from where the list starts and ends
module _ (list first last : ℕ) (h : list < 39) (starts : first ≡ get_or (starts_from 0 lists) list 0)
    (ends : last ≡ get_or (starts_from 0 lists) (list + 1) 0) where
  -- its size is that of the list
  size : last ≡ first + length (get_or lists list [])
  size = rw (starts, ends) (list_size list h)

  rises : first ≤ last
  rises = omega (arith, size)

  within : last ≤ 438
  within = rw ends (list_within list h)

  text : (i : ℕ) → i < last - first → first + i < 438
  text i less = omega (arith, within)

  one : {old new : Text} (i : ℕ) → i < last - first → Extends (get_or texts (first + i) []) old new
      → Extends (get_or (get_or lists list []) i []) old new
  one i less a =
      let inside : i < length (get_or lists list []) = omega (arith, size) in
      rw (starts, list_entry list h i inside) at a

  none : {old : Text} (i : ℕ) → last - first ≤ i → Extends (get_or (get_or lists list []) i []) old old
  none i more =
      let out : length (get_or lists list []) ≤ i = omega (arith, size) in
      rw (past_end (get_or lists list []) i [] out) (extends_none _)

pub overflow_sub-last : goal.overflow_sub-last
unfolding lists labels sources
overflow_sub-last c =
    rises c.args.list c.from-first.result c.from-last.result c.if-list-lt-LISTS.true c.from-first.ensures c.from-last.ensures

pub text_at-requires : goal.text_at-requires
unfolding lists labels sources
text_at-requires c =
    text c.args.list c.from-first.result c.from-last.result c.if-list-lt-LISTS.true c.from-first.ensures c.from-last.ensures c.args.i c.if-i-last.true

pub returns-then-i-last : goal.returns-then-i-last
unfolding lists labels sources
returns-then-i-last c =
    one c.args.list c.from-first.result c.from-last.result c.if-list-lt-LISTS.true c.from-first.ensures c.from-last.ensures c.args.i c.if-i-last.true
    c.text_at.ensures

pub returns-else-i-last : goal.returns-else-i-last
unfolding lists labels sources
returns-else-i-last c =
    none c.args.list c.from-first.result c.from-last.result c.if-list-lt-LISTS.true c.from-first.ensures c.from-last.ensures c.args.i c.if-i-last.false

pub returns-else-list-lt-LISTS : goal.returns-else-list-lt-LISTS
returns-else-list-lt-LISTS c =
    let out : length lists ≤ c.args.list = rw lists_many c.if-list-lt-LISTS.false in
    rw (past_end lists c.args.list [] out) (extends_none _)
