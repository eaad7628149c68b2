use Rattle.std.proofs.Common.{◌≡◌, ℕ, ◌+◌, ◌-◌, ◌≤◌, ◌<◌, List, [], get_or, take, drop}
use Rattle.text.specs.Append.{Extends}
use Rattle.text.specs.declared.Text.{Text}
use Rattle.names.specs.Table.{labels, sources, lists, texts, together, starts_from}
use Rattle.names.proofs.Tables.{text_rises, text_within, text_cut}
use Rattle.names.proofs.table.text_at.Goals as goal

-- from where text n starts and ends
module _ (n s e : ℕ) (h : n < 438) (start : s ≡ get_or (starts_from 0 texts) n 0) (end : e ≡ get_or (starts_from 0 texts) (n + 1) 0) where
  within : (s ≤ e) × (e ≤ 9643)
  within = rw (start, end) (text_rises n h, text_within n h)

  cut : {old new : Text} → Extends (take (e - s) (drop s (together texts))) old new
      → Extends (get_or texts n []) old new
  cut a = rw (start, end, text_cut n h) at a

pub cut-requires : goal.cut-requires
unfolding texts lists labels sources
cut-requires c = within c.args.n c.from-start.result c.from-end.result c.requires c.from-start.ensures c.from-end.ensures

pub returns : goal.returns
unfolding texts lists labels sources
returns c = cut c.args.n c.from-start.result c.from-end.result c.requires c.from-start.ensures c.from-end.ensures c.cut.ensures
