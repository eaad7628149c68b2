-- The arguments as one line. No contract can say which bytes they are.
use Rattle.std.specs.Prelude.{ℕ, List}
use Rattle.text.specs.Append.{Extends}
use Rattle.text.specs.declared.Text.{Text}

-- some bytes were appended to a text
pub record Lengthened (old new : Text) : Type 0 where
  pub bytes : List ℕ
  pub appended : Extends bytes old new
