-- A quoted text as the bytes of its characters.
use Rattle.std.specs.Prelude.{ℕ, List, [], ◌∷◌}
use Prim.Native.Char.{code}
use Prim.Native.String as Quoted

abbrev pub ascii : Quoted.String → List ℕ
ascii Quoted.[] = []
ascii (Quoted.◌∷◌ c rest) = code c ∷ ascii rest
