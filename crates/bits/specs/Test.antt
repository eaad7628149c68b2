-- Tests that the rules are made of.
use Rattle.std.specs.Prelude.{ℕ, Bool, not, ◌&&◌, ◌||◌, leb}

-- b, where a holds
abbrev pub implies : Bool → Bool → Bool
implies a b = not a || b

-- n is one of first to last
abbrev pub between : ℕ → ℕ → ℕ → Bool
between first last n = leb first n && leb n last
