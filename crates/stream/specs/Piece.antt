-- What a read gave, by its answer.
use Rattle.std.specs.Prelude.{ℕ, min, Result, Ok, Err}
use Rattle.stream.specs.declared.Failed.{Failed}

-- how many bytes of an answer to a read into so many bytes, or that it failed
abbrev pub piece_of : {E : Type 0} → Result ℕ E → ℕ → Result ℕ Failed
piece_of (Ok n) room = Ok (min n room)
piece_of (Err e) room = Err (record {})
