-- Request C-14, "The reader holds the lent log and its place; it moves over it": what a reader gives that was opened and moved past n
-- sections.
use Rattle.std.specs.Prelude.{ℕ, List}
use Rattle.log_section.specs.Look.{skip_from, look_at}
use Rattle.log_section.specs.declared.entry.Place.{Place}
use Rattle.log_section.specs.declared.entry.Look.{Look}

-- the place n sections on from another, or as many as are whole
abbrev pub place_from : List ℕ → ℕ → ℕ → ℕ → Place
place_from s passed at n = skip_from s n record { passed = passed; at = at }

abbrev pub place_after : List ℕ → ℕ → Place
place_after s n = place_from s 0 0 n

abbrev pub look_in : List ℕ → ℕ → ℕ → Look
look_in s n i = look_at s (place_after s n).passed (place_after s n).at i
