-- Inner contracts, which nobody has to believe: the rows of code's tables. A form's own law says that they are its layout's fields and their
-- names.
use Rattle.std.specs.Prelude.{ℕ, zero, suc, Bool, true, false, not, cond, ◌&&◌, ◌||◌, List, [], ◌∷◌, ◌++◌, eqb, get_or}
use Rattle.bits.specs.Field.{field_of, bit_of}
use Rattle.iss.specs.Rule.{mmu_fault}
use Rattle.names.specs.Name.{Entry, Name}
use Rattle.names.specs.Table.{label_at, values_at}
use Rattle.field_text.specs.Line.{line_text}

unfoldable pub row_labels : List ℕ
row_labels =
    0 ∷ 1 ∷ 24 ∷ 25 ∷ 26 ∷ 27 ∷ 28 ∷ 29 ∷ 19 ∷ 20 ∷ 21 ∷ 30 ∷ 22 ∷ 31 ∷ 32 ∷ 0 ∷ 1 ∷ 2 ∷ 3 ∷ 5 ∷ 6 ∷ 7 ∷ 8 ∷ 9 ∷ 10 ∷ 0 ∷ 1 ∷ 2
    ∷ 3 ∷ 6 ∷ 11 ∷ 8 ∷ 9 ∷ 10 ∷ 0 ∷ 1 ∷ 2 ∷ 3 ∷ 12 ∷ 13 ∷ 14 ∷ 15 ∷ 10 ∷ 0 ∷ 1 ∷ 19 ∷ 20 ∷ 21 ∷ 22 ∷ 23 ∷ 0 ∷ 1 ∷ 2 ∷ 3 ∷ 4 ∷ 0
    ∷ 1 ∷ 2 ∷ 3 ∷ 18 ∷ 0 ∷ 1 ∷ 24 ∷ 33 ∷ 23 ∷ 0 ∷ 1 ∷ 30 ∷ 31 ∷ 32 ∷ 0 ∷ 1 ∷ 34 ∷ 21 ∷ 32 ∷ 0 ∷ 1 ∷ 16 ∷ 0 ∷ 1 ∷ 17 ∷ 0 ∷ 1 ∷ 23
    ∷ 0 ∷ 1 ∷ 24 ∷ 25 ∷ 26 ∷ 27 ∷ 29 ∷ 37 ∷ 21 ∷ 30 ∷ 22 ∷ 31 ∷ 32 ∷ 0 ∷ 1 ∷ 24 ∷ 25 ∷ 26 ∷ 27 ∷ 29 ∷ 34 ∷ 21 ∷ 30 ∷ 22 ∷ 31 ∷ 32 ∷ 0 ∷ 1
    ∷ 2 ∷ 3 ∷ 5 ∷ 6 ∷ 7 ∷ 8 ∷ 9 ∷ 10 ∷ 0 ∷ 1 ∷ 2 ∷ 3 ∷ 6 ∷ 11 ∷ 8 ∷ 9 ∷ 10 ∷ 0 ∷ 1 ∷ 2 ∷ 3 ∷ 12 ∷ 13 ∷ 14 ∷ 15 ∷ 10 ∷ 0 ∷ 1
    ∷ 2 ∷ 3 ∷ 35 ∷ 36 ∷ 0 ∷ 1 ∷ 20 ∷ 21 ∷ 22 ∷ 23 ∷ 0 ∷ 1 ∷ 2 ∷ 3 ∷ 4 ∷ 0 ∷ 1 ∷ 2 ∷ 3 ∷ 18 ∷ 0 ∷ 1 ∷ 16 ∷ 0 ∷ 1
    ∷ []

unfoldable pub row_highs : List ℕ
row_highs =
    31 ∷ 25 ∷ 24 ∷ 23 ∷ 21 ∷ 20 ∷ 15 ∷ 14 ∷ 12 ∷ 10 ∷ 9 ∷ 8 ∷ 7 ∷ 6 ∷ 5 ∷ 31 ∷ 25 ∷ 24 ∷ 23 ∷ 19 ∷ 16 ∷ 13 ∷ 9 ∷ 4 ∷ 0 ∷ 31 ∷ 25 ∷ 24
    ∷ 23 ∷ 19 ∷ 14 ∷ 9 ∷ 4 ∷ 0 ∷ 31 ∷ 25 ∷ 24 ∷ 23 ∷ 19 ∷ 9 ∷ 4 ∷ 3 ∷ 0 ∷ 31 ∷ 25 ∷ 12 ∷ 10 ∷ 9 ∷ 7 ∷ 5 ∷ 31 ∷ 25 ∷ 24 ∷ 23 ∷ 0 ∷ 31
    ∷ 25 ∷ 24 ∷ 23 ∷ 19 ∷ 31 ∷ 25 ∷ 24 ∷ 6 ∷ 5 ∷ 31 ∷ 25 ∷ 8 ∷ 6 ∷ 5 ∷ 31 ∷ 25 ∷ 12 ∷ 9 ∷ 5 ∷ 31 ∷ 25 ∷ 15 ∷ 31 ∷ 25 ∷ 15 ∷ 31 ∷ 25 ∷ 5
    ∷ 31 ∷ 25 ∷ 24 ∷ 23 ∷ 21 ∷ 19 ∷ 14 ∷ 11 ∷ 9 ∷ 8 ∷ 7 ∷ 6 ∷ 5 ∷ 31 ∷ 25 ∷ 24 ∷ 23 ∷ 21 ∷ 19 ∷ 14 ∷ 11 ∷ 9 ∷ 8 ∷ 7 ∷ 6 ∷ 5 ∷ 31 ∷ 25
    ∷ 24 ∷ 23 ∷ 19 ∷ 16 ∷ 13 ∷ 8 ∷ 4 ∷ 0 ∷ 31 ∷ 25 ∷ 24 ∷ 23 ∷ 19 ∷ 13 ∷ 8 ∷ 4 ∷ 0 ∷ 31 ∷ 25 ∷ 24 ∷ 23 ∷ 19 ∷ 8 ∷ 4 ∷ 3 ∷ 0 ∷ 31 ∷ 25
    ∷ 24 ∷ 23 ∷ 5 ∷ 3 ∷ 31 ∷ 25 ∷ 10 ∷ 9 ∷ 7 ∷ 5 ∷ 31 ∷ 25 ∷ 24 ∷ 23 ∷ 0 ∷ 31 ∷ 25 ∷ 24 ∷ 23 ∷ 19 ∷ 31 ∷ 25 ∷ 15 ∷ 31 ∷ 25
    ∷ []

unfoldable pub row_lows : List ℕ
row_lows =
    26 ∷ 25 ∷ 24 ∷ 22 ∷ 21 ∷ 16 ∷ 15 ∷ 14 ∷ 11 ∷ 10 ∷ 9 ∷ 8 ∷ 7 ∷ 6 ∷ 0 ∷ 26 ∷ 25 ∷ 24 ∷ 20 ∷ 17 ∷ 14 ∷ 10 ∷ 5 ∷ 1 ∷ 0 ∷ 26 ∷ 25 ∷ 24
    ∷ 20 ∷ 16 ∷ 10 ∷ 5 ∷ 1 ∷ 0 ∷ 26 ∷ 25 ∷ 24 ∷ 20 ∷ 12 ∷ 5 ∷ 4 ∷ 1 ∷ 0 ∷ 26 ∷ 25 ∷ 11 ∷ 10 ∷ 9 ∷ 7 ∷ 0 ∷ 26 ∷ 25 ∷ 24 ∷ 20 ∷ 0 ∷ 26
    ∷ 25 ∷ 24 ∷ 20 ∷ 19 ∷ 26 ∷ 25 ∷ 24 ∷ 6 ∷ 0 ∷ 26 ∷ 25 ∷ 8 ∷ 6 ∷ 0 ∷ 26 ∷ 25 ∷ 10 ∷ 9 ∷ 0 ∷ 26 ∷ 25 ∷ 0 ∷ 26 ∷ 25 ∷ 0 ∷ 26 ∷ 25 ∷ 0
    ∷ 26 ∷ 25 ∷ 24 ∷ 22 ∷ 21 ∷ 16 ∷ 14 ∷ 10 ∷ 9 ∷ 8 ∷ 7 ∷ 6 ∷ 0 ∷ 26 ∷ 25 ∷ 24 ∷ 22 ∷ 21 ∷ 16 ∷ 14 ∷ 10 ∷ 9 ∷ 8 ∷ 7 ∷ 6 ∷ 0 ∷ 26 ∷ 25
    ∷ 24 ∷ 20 ∷ 17 ∷ 14 ∷ 10 ∷ 5 ∷ 1 ∷ 0 ∷ 26 ∷ 25 ∷ 24 ∷ 20 ∷ 16 ∷ 10 ∷ 5 ∷ 1 ∷ 0 ∷ 26 ∷ 25 ∷ 24 ∷ 20 ∷ 12 ∷ 5 ∷ 4 ∷ 1 ∷ 0 ∷ 26 ∷ 25
    ∷ 24 ∷ 20 ∷ 5 ∷ 0 ∷ 26 ∷ 25 ∷ 10 ∷ 9 ∷ 7 ∷ 0 ∷ 26 ∷ 25 ∷ 24 ∷ 20 ∷ 0 ∷ 26 ∷ 25 ∷ 24 ∷ 20 ∷ 19 ∷ 26 ∷ 25 ∷ 0 ∷ 26 ∷ 25
    ∷ []

unfoldable pub row_tests : List ℕ
row_tests =
    0 ∷ 1 ∷ 0 ∷ 1 ∷ 2 ∷ 1 ∷ 1 ∷ 1 ∷ 5 ∷ 5 ∷ 0 ∷ 0 ∷ 7 ∷ 8 ∷ 0 ∷ 0 ∷ 0 ∷ 0 ∷ 1 ∷ 0 ∷ 0 ∷ 0 ∷ 0 ∷ 0 ∷ 0 ∷ 0 ∷ 0 ∷ 0
    ∷ 1 ∷ 0 ∷ 0 ∷ 0 ∷ 0 ∷ 0 ∷ 0 ∷ 0 ∷ 0 ∷ 1 ∷ 0 ∷ 3 ∷ 0 ∷ 0 ∷ 0 ∷ 0 ∷ 0 ∷ 5 ∷ 5 ∷ 0 ∷ 7 ∷ 0 ∷ 0 ∷ 0 ∷ 0 ∷ 1 ∷ 0 ∷ 0
    ∷ 0 ∷ 4 ∷ 1 ∷ 0 ∷ 0 ∷ 0 ∷ 0 ∷ 1 ∷ 0 ∷ 0 ∷ 0 ∷ 0 ∷ 9 ∷ 0 ∷ 0 ∷ 0 ∷ 6 ∷ 0 ∷ 0 ∷ 0 ∷ 0 ∷ 0 ∷ 0 ∷ 0 ∷ 0 ∷ 0 ∷ 0 ∷ 0
    ∷ 0 ∷ 1 ∷ 0 ∷ 1 ∷ 2 ∷ 0 ∷ 1 ∷ 5 ∷ 0 ∷ 10 ∷ 7 ∷ 11 ∷ 0 ∷ 0 ∷ 1 ∷ 0 ∷ 1 ∷ 2 ∷ 0 ∷ 1 ∷ 0 ∷ 0 ∷ 10 ∷ 7 ∷ 11 ∷ 0 ∷ 0 ∷ 0
    ∷ 0 ∷ 1 ∷ 0 ∷ 0 ∷ 0 ∷ 0 ∷ 0 ∷ 0 ∷ 0 ∷ 0 ∷ 0 ∷ 1 ∷ 0 ∷ 0 ∷ 0 ∷ 0 ∷ 0 ∷ 0 ∷ 0 ∷ 0 ∷ 1 ∷ 0 ∷ 3 ∷ 0 ∷ 0 ∷ 0 ∷ 0 ∷ 0
    ∷ 0 ∷ 1 ∷ 0 ∷ 0 ∷ 0 ∷ 0 ∷ 5 ∷ 0 ∷ 7 ∷ 0 ∷ 0 ∷ 0 ∷ 0 ∷ 1 ∷ 0 ∷ 0 ∷ 0 ∷ 4 ∷ 1 ∷ 0 ∷ 0 ∷ 0 ∷ 0 ∷ 0 ∷ 0
    ∷ []

unfoldable pub row_lists : List ℕ
row_lists =
    1 ∷ 2 ∷ 17 ∷ 18 ∷ 19 ∷ 35 ∷ 20 ∷ 21 ∷ 13 ∷ 14 ∷ 36 ∷ 22 ∷ 15 ∷ 5 ∷ 16 ∷ 1 ∷ 2 ∷ 3 ∷ 4 ∷ 0 ∷ 0 ∷ 0 ∷ 35 ∷ 0 ∷ 7 ∷ 1 ∷ 2 ∷ 3
    ∷ 4 ∷ 0 ∷ 35 ∷ 35 ∷ 0 ∷ 8 ∷ 1 ∷ 2 ∷ 3 ∷ 4 ∷ 0 ∷ 35 ∷ 9 ∷ 10 ∷ 11 ∷ 1 ∷ 0 ∷ 13 ∷ 14 ∷ 36 ∷ 15 ∷ 16 ∷ 1 ∷ 2 ∷ 3 ∷ 4 ∷ 6 ∷ 1
    ∷ 2 ∷ 3 ∷ 4 ∷ 12 ∷ 1 ∷ 0 ∷ 24 ∷ 25 ∷ 16 ∷ 1 ∷ 0 ∷ 22 ∷ 23 ∷ 16 ∷ 1 ∷ 0 ∷ 26 ∷ 36 ∷ 27 ∷ 1 ∷ 2 ∷ 0 ∷ 1 ∷ 2 ∷ 0 ∷ 1 ∷ 0 ∷ 16
    ∷ 28 ∷ 2 ∷ 17 ∷ 18 ∷ 19 ∷ 0 ∷ 21 ∷ 37 ∷ 36 ∷ 22 ∷ 15 ∷ 23 ∷ 33 ∷ 28 ∷ 2 ∷ 17 ∷ 18 ∷ 19 ∷ 0 ∷ 21 ∷ 30 ∷ 36 ∷ 22 ∷ 15 ∷ 23 ∷ 33 ∷ 28 ∷ 2
    ∷ 3 ∷ 4 ∷ 0 ∷ 0 ∷ 0 ∷ 0 ∷ 0 ∷ 7 ∷ 28 ∷ 2 ∷ 3 ∷ 4 ∷ 0 ∷ 0 ∷ 0 ∷ 0 ∷ 8 ∷ 28 ∷ 2 ∷ 3 ∷ 4 ∷ 0 ∷ 0 ∷ 9 ∷ 10 ∷ 11 ∷ 28 ∷ 2
    ∷ 3 ∷ 4 ∷ 29 ∷ 0 ∷ 28 ∷ 0 ∷ 34 ∷ 36 ∷ 15 ∷ 33 ∷ 28 ∷ 2 ∷ 3 ∷ 4 ∷ 6 ∷ 28 ∷ 2 ∷ 3 ∷ 4 ∷ 12 ∷ 28 ∷ 2 ∷ 0 ∷ 28 ∷ 5
    ∷ []

unfoldable pub row_other_tests : List ℕ
row_other_tests =
    0 ∷ 0 ∷ 0 ∷ 0 ∷ 0 ∷ 0 ∷ 0 ∷ 0 ∷ 0 ∷ 0 ∷ 0 ∷ 0 ∷ 0 ∷ 9 ∷ 0 ∷ 0 ∷ 0 ∷ 0 ∷ 0 ∷ 0 ∷ 0 ∷ 0 ∷ 0 ∷ 0 ∷ 0 ∷ 0 ∷ 0 ∷ 0
    ∷ 0 ∷ 0 ∷ 0 ∷ 0 ∷ 0 ∷ 0 ∷ 0 ∷ 0 ∷ 0 ∷ 0 ∷ 0 ∷ 0 ∷ 0 ∷ 0 ∷ 0 ∷ 0 ∷ 0 ∷ 0 ∷ 0 ∷ 0 ∷ 0 ∷ 0 ∷ 0 ∷ 0 ∷ 0 ∷ 0 ∷ 0 ∷ 0
    ∷ 0 ∷ 0 ∷ 4 ∷ 0 ∷ 0 ∷ 0 ∷ 0 ∷ 0 ∷ 0 ∷ 0 ∷ 0 ∷ 0 ∷ 0 ∷ 0 ∷ 0 ∷ 0 ∷ 0 ∷ 0 ∷ 0 ∷ 0 ∷ 0 ∷ 0 ∷ 0 ∷ 0 ∷ 0 ∷ 0 ∷ 0 ∷ 0
    ∷ 0 ∷ 0 ∷ 0 ∷ 0 ∷ 0 ∷ 0 ∷ 0 ∷ 0 ∷ 0 ∷ 0 ∷ 0 ∷ 0 ∷ 0 ∷ 0 ∷ 0 ∷ 0 ∷ 0 ∷ 0 ∷ 0 ∷ 0 ∷ 0 ∷ 0 ∷ 0 ∷ 0 ∷ 0 ∷ 0 ∷ 0 ∷ 0
    ∷ 0 ∷ 0 ∷ 0 ∷ 0 ∷ 0 ∷ 0 ∷ 0 ∷ 0 ∷ 0 ∷ 0 ∷ 0 ∷ 0 ∷ 0 ∷ 0 ∷ 0 ∷ 0 ∷ 0 ∷ 0 ∷ 0 ∷ 0 ∷ 0 ∷ 0 ∷ 0 ∷ 0 ∷ 0 ∷ 0 ∷ 0 ∷ 0
    ∷ 0 ∷ 0 ∷ 0 ∷ 0 ∷ 0 ∷ 0 ∷ 0 ∷ 0 ∷ 0 ∷ 0 ∷ 0 ∷ 0 ∷ 0 ∷ 0 ∷ 0 ∷ 0 ∷ 0 ∷ 0 ∷ 4 ∷ 0 ∷ 0 ∷ 0 ∷ 0 ∷ 0 ∷ 0
    ∷ []

unfoldable pub row_other_lists : List ℕ
row_other_lists =
    0 ∷ 0 ∷ 0 ∷ 0 ∷ 0 ∷ 0 ∷ 0 ∷ 0 ∷ 0 ∷ 0 ∷ 0 ∷ 0 ∷ 0 ∷ 23 ∷ 0 ∷ 0 ∷ 0 ∷ 0 ∷ 5 ∷ 0 ∷ 0 ∷ 0 ∷ 0 ∷ 0 ∷ 0 ∷ 0 ∷ 0 ∷ 0
    ∷ 5 ∷ 0 ∷ 0 ∷ 0 ∷ 0 ∷ 0 ∷ 0 ∷ 0 ∷ 0 ∷ 5 ∷ 0 ∷ 5 ∷ 0 ∷ 0 ∷ 0 ∷ 0 ∷ 0 ∷ 0 ∷ 0 ∷ 0 ∷ 0 ∷ 0 ∷ 0 ∷ 0 ∷ 0 ∷ 5 ∷ 0 ∷ 0
    ∷ 0 ∷ 0 ∷ 5 ∷ 0 ∷ 0 ∷ 0 ∷ 0 ∷ 0 ∷ 0 ∷ 0 ∷ 0 ∷ 0 ∷ 0 ∷ 0 ∷ 0 ∷ 0 ∷ 0 ∷ 0 ∷ 0 ∷ 0 ∷ 0 ∷ 0 ∷ 0 ∷ 0 ∷ 0 ∷ 0 ∷ 0 ∷ 0
    ∷ 0 ∷ 0 ∷ 0 ∷ 0 ∷ 0 ∷ 0 ∷ 0 ∷ 0 ∷ 0 ∷ 0 ∷ 0 ∷ 0 ∷ 0 ∷ 0 ∷ 0 ∷ 0 ∷ 0 ∷ 0 ∷ 0 ∷ 0 ∷ 0 ∷ 0 ∷ 0 ∷ 0 ∷ 0 ∷ 0 ∷ 0 ∷ 0
    ∷ 0 ∷ 5 ∷ 0 ∷ 0 ∷ 0 ∷ 0 ∷ 0 ∷ 0 ∷ 0 ∷ 0 ∷ 0 ∷ 5 ∷ 0 ∷ 0 ∷ 0 ∷ 0 ∷ 0 ∷ 0 ∷ 0 ∷ 0 ∷ 5 ∷ 0 ∷ 5 ∷ 0 ∷ 0 ∷ 0 ∷ 0 ∷ 0
    ∷ 0 ∷ 5 ∷ 0 ∷ 0 ∷ 0 ∷ 0 ∷ 0 ∷ 0 ∷ 0 ∷ 0 ∷ 0 ∷ 0 ∷ 0 ∷ 5 ∷ 0 ∷ 0 ∷ 0 ∷ 0 ∷ 5 ∷ 0 ∷ 0 ∷ 0 ∷ 0 ∷ 0 ∷ 0
    ∷ []

unfoldable pub shape_firsts : List ℕ
shape_firsts =
    43 ∷ 50 ∷ 0 ∷ 15 ∷ 25 ∷ 15 ∷ 34 ∷ 15 ∷ 15 ∷ 0 ∷ 0 ∷ 0 ∷ 25 ∷ 0 ∷ 43 ∷ 0 ∷ 0 ∷ 75 ∷ 75 ∷ 55 ∷ 0 ∷ 75 ∷ 75 ∷ 75 ∷ 0 ∷ 0 ∷ 0 ∷ 0
    ∷ 0 ∷ 0 ∷ 0 ∷ 0 ∷ 43 ∷ 0 ∷ 43 ∷ 0 ∷ 0 ∷ 0 ∷ 0 ∷ 0 ∷ 0 ∷ 0 ∷ 0 ∷ 0 ∷ 0 ∷ 0 ∷ 0 ∷ 70 ∷ 81 ∷ 0 ∷ 60 ∷ 0 ∷ 65 ∷ 0 ∷ 0 ∷ 0
    ∷ 78 ∷ 0 ∷ 81 ∷ 0 ∷ 0 ∷ 0 ∷ 0 ∷ 0 ∷ 144 ∷ 150 ∷ 0 ∷ 110 ∷ 120 ∷ 110 ∷ 129 ∷ 138 ∷ 110 ∷ 0 ∷ 0 ∷ 0 ∷ 120 ∷ 0 ∷ 144 ∷ 0 ∷ 0 ∷ 160 ∷ 160 ∷ 155
    ∷ 0 ∷ 0 ∷ 0 ∷ 0 ∷ 0 ∷ 0 ∷ 0 ∷ 0 ∷ 0 ∷ 0 ∷ 0 ∷ 0 ∷ 144 ∷ 0 ∷ 163 ∷ 0 ∷ 84 ∷ 0 ∷ 0 ∷ 0 ∷ 0 ∷ 0 ∷ 0 ∷ 0 ∷ 0 ∷ 0 ∷ 0 ∷ 0
    ∷ 0 ∷ 0 ∷ 0 ∷ 0 ∷ 0 ∷ 0 ∷ 0 ∷ 0 ∷ 0 ∷ 0 ∷ 0 ∷ 0 ∷ 0 ∷ 0 ∷ 0 ∷ 0 ∷ 97
    ∷ []

unfoldable pub shape_counts : List ℕ
shape_counts =
    2 ∷ 5 ∷ 0 ∷ 10 ∷ 9 ∷ 10 ∷ 9 ∷ 4 ∷ 10 ∷ 0 ∷ 0 ∷ 0 ∷ 9 ∷ 0 ∷ 2 ∷ 0 ∷ 0 ∷ 3 ∷ 3 ∷ 5 ∷ 0 ∷ 3 ∷ 3 ∷ 3 ∷ 0 ∷ 0 ∷ 0 ∷ 0
    ∷ 0 ∷ 0 ∷ 0 ∷ 0 ∷ 7 ∷ 0 ∷ 2 ∷ 0 ∷ 15 ∷ 0 ∷ 0 ∷ 0 ∷ 0 ∷ 0 ∷ 0 ∷ 0 ∷ 0 ∷ 0 ∷ 0 ∷ 5 ∷ 3 ∷ 0 ∷ 5 ∷ 0 ∷ 5 ∷ 0 ∷ 0 ∷ 0
    ∷ 3 ∷ 0 ∷ 3 ∷ 0 ∷ 0 ∷ 0 ∷ 0 ∷ 0 ∷ 2 ∷ 5 ∷ 0 ∷ 10 ∷ 9 ∷ 10 ∷ 9 ∷ 6 ∷ 10 ∷ 0 ∷ 0 ∷ 0 ∷ 9 ∷ 0 ∷ 2 ∷ 0 ∷ 0 ∷ 3 ∷ 3 ∷ 5
    ∷ 0 ∷ 0 ∷ 0 ∷ 0 ∷ 0 ∷ 0 ∷ 0 ∷ 0 ∷ 0 ∷ 0 ∷ 0 ∷ 0 ∷ 6 ∷ 0 ∷ 2 ∷ 0 ∷ 13 ∷ 0 ∷ 0 ∷ 0 ∷ 0 ∷ 0 ∷ 0 ∷ 0 ∷ 0 ∷ 0 ∷ 0 ∷ 0
    ∷ 0 ∷ 0 ∷ 0 ∷ 0 ∷ 0 ∷ 0 ∷ 0 ∷ 0 ∷ 0 ∷ 0 ∷ 0 ∷ 0 ∷ 0 ∷ 0 ∷ 0 ∷ 0 ∷ 13
    ∷ []

-- tests of a word, by number, for fields that count where others have some value: always; CV or ISV; a load that is described; an immediate
-- form of LDC and STC; CCKNOWNPASS; code 0x10; code 0x11; an MMU fault; a code with which WnR is UNKNOWN; CM 0; no SError interrupt among
-- the short form's aborts; the last two
abbrev pub asynchronous : ℕ → Bool
asynchronous code = eqb code 0x11 || eqb code 0x19

unfoldable pub tests_of : ℕ → Bool → Bool → Bool → Bool → Bool → List Bool
tests_of code valid wnr literal ccknownpass cm =
    true ∷ valid ∷ (valid && not wnr) ∷ not literal ∷ ccknownpass ∷ eqb code 0x10 ∷ eqb code 0x11 ∷ mmu_fault code
    ∷ (eqb code 0x31 || eqb code 0x35)
    ∷ not cm
    ∷ not (asynchronous code)
    ∷ (not (asynchronous code) && not cm)
    ∷ []

unfoldable pub tests : ℕ → List Bool
tests w = tests_of (field_of w 5 0) (bit_of w 24) (bit_of w 6) (bit_of (field_of w 3 1) 2) (bit_of w 19) (bit_of w 8)

abbrev pub holds_in : ℕ → ℕ → Bool
holds_in w t = get_or (tests w) t false

-- row i over a word: a name and its bits. What it says is a list where one test holds, another where another does, else nothing
pub record Row : Type 0 where
  pub name : Name
  pub high : ℕ
  pub low : ℕ

abbrev pub name_of : ℕ → List Entry → Name
name_of label values = record { label = label_at label; values = values }

unfoldable pub values_in : ℕ → ℕ → List Entry
values_in w i =
    cond (holds_in w (get_or row_tests i 0)) (values_at (get_or row_lists i 0))
    (cond (holds_in w (get_or row_other_tests i 0)) (values_at (get_or row_other_lists i 0)) [])

unfoldable pub row_in : ℕ → ℕ → Row
row_in w i =
    record {
      name = name_of (get_or row_labels i 0) (values_in w i);
      high = get_or row_highs i 0;
      low = get_or row_lows i 0;
    }

abbrev pub row_text : ℕ → Row → List ℕ
row_text w row = line_text row.name row.high row.low (field_of w row.high row.low)

-- the rows from i on, n of them, and their lines over a word
abbrev pub rows_from : ℕ → ℕ → ℕ → List Row
rows_from w i zero = []
rows_from w i (suc n) = row_in w i ∷ rows_from w (suc i) n

abbrev pub rows_text : ℕ → List Row → List ℕ
rows_text w [] = []
rows_text w (row ∷ rows) = row_text w row ++ rows_text w rows

-- the rows of a shape
unfoldable pub shape_rows : ℕ → ℕ → List Row
shape_rows shape w = rows_from w (get_or shape_firsts shape 0) (get_or shape_counts shape 0)

abbrev pub shape_text : ℕ → ℕ → List ℕ
shape_text shape w = rows_text w (shape_rows shape w)
