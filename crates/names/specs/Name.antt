-- What a field is called in the Arm manual, and what its values mean there.
use Rattle.std.specs.Prelude.{ℕ, cond, List, [], ◌∷◌, ◌++◌, eqb}
use Prim.Native.String as Quoted
use Rattle.text.specs.Ascii.{ascii}

-- a value, and what is said of it behind it
pub record Entry : Type 0 where
  pub value : ℕ
  pub text : List ℕ

abbrev pub means : ℕ → Quoted.String → Entry
means value words = record { value = value; text = ascii ": " ++ ascii words }

-- what is said of a value: nothing where it has no entry
abbrev pub meaning_of : List Entry → ℕ → List ℕ
meaning_of [] v = []
meaning_of (e ∷ es) v = cond (eqb v e.value) e.text (meaning_of es v)

-- a field's name, and its values
pub record Name : Type 0 where
  pub label : List ℕ
  pub values : List Entry

abbrev pub named : Quoted.String → List Entry → Name
named label values = record { label = ascii label; values = values }
