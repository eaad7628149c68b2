-- Rows that are a layout's fields under their names say over a word that holds the fields what the fields say.
-- Assumes nothing.
use mathlib.Core.Path.{◌≡◌, refl, ap, ap₂, ◌∙◌}
use mathlib.Core.List.{List, [], ◌∷◌, ◌++◌}
use Prim.Native.Nat.{ℕ}
use Rattle.bits.specs.Layout.{Field, high_of, low_of}
use Rattle.bits.proofs.Fields.{AllBack}
use Rattle.names.specs.Name.{Name}
use Rattle.field_text.specs.Line.{line_text, fields_text}
use Rattle.field_text.specs.Rows.{Row, rows_text, shape_rows, shape_text}

-- the rows that names and fields make
abbrev pub rows_of : List Name → List Field → List Row
rows_of [] fs = []
rows_of (n ∷ ns) [] = []
rows_of (n ∷ ns) (f ∷ fs) = record { name = n; high = high_of f; low = low_of f } ∷ rows_of ns fs

rows_said : (w : ℕ) (ns : List Name) (fs : List Field) → AllBack w fs → rows_text w (rows_of ns fs) ≡ fields_text ns fs
rows_said w [] fs b = refl
rows_said w (n ∷ ns) [] b = refl
rows_said w (n ∷ ns) (f ∷ fs) b =
    ap₂ (λ (line others : List ℕ). line ++ others) (ap (line_text n (high_of f) (low_of f)) b.0) (rows_said w ns fs b.1)

pub shape_said : (w shape : ℕ) (ns : List Name) (fs : List Field) → shape_rows shape w ≡ rows_of ns fs → AllBack w fs
    → shape_text shape w ≡ fields_text ns fs
shape_said w shape ns fs same b = ap (rows_text w) same ∙ rows_said w ns fs b
