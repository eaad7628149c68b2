-- Which bits of a word a layout explains: those in which one of its fields stands.
use Rattle.std.specs.Prelude.{ℕ, Bool, false, ◌&&◌, ◌||◌, List, [], ◌∷◌, leb}
use Rattle.bits.specs.Layout.{Field, high_of, low_of}

abbrev pub explained : ℕ → List Field → Bool
explained n [] = false
explained n (f ∷ fs) = leb (low_of f) n && leb n (high_of f) || explained n fs
