-- The rule that a word breaks which no edition has, in words, by its number (crates reason and short_reason).
use Rattle.std.specs.Prelude.{ℕ, List, ◌++◌}
use Rattle.names.specs.Name.{meaning_of}
use Rattle.names.specs.Value.{reasons}
use Rattle.text.specs.Ascii.{ascii}

abbrev pub why_text : ℕ → List ℕ
why_text rule = ascii "why" ++ meaning_of reasons rule ++ ascii "\n"
