-- Inner contracts, which nobody has to believe.
use Rattle.std.specs.Prelude.{ℕ, Bool, ◌&&◌, eqb}
use Rattle.short_layout.specs.Fields.{record_word}
use Rattle.short_record.specs.declared.kinds.Record.{Record}
use Rattle.short_rule.specs.Has.{has}

-- an edition has the record, and the record makes the word
abbrev pub makes : ℕ → Record → ℕ → Bool
makes e r w = eqb (record_word r) w && has e r
