-- Inner contracts, which nobody has to believe.
use Rattle.std.specs.Prelude.{ℕ, Bool, ◌&&◌, eqb}
use Rattle.layout.specs.Fields.{record_word}
use Rattle.record.specs.declared.origin.Origin.{Origin}
use Rattle.record.specs.declared.kinds.Record.{Record}
use Rattle.rule.specs.Has.{has}

-- an edition has the record, and the record makes the word
abbrev pub makes : Origin → ℕ → Record → ℕ → Bool
makes o e r w = eqb (record_word r) w && has o e r
