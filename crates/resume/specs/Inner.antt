-- An inner contract, which nobody has to believe: what a return does is settled by `returned` (Return.antt) alone.
use Rattle.std.specs.Prelude.{ℕ, Result, Ok, Err}
use Rattle.exception.specs.declared.state.Guest.{Guest}
use Rattle.resume.specs.declared.ReturnRefusal.{ReturnRefusal}
use Rattle.resume.specs.Return.{mode_of, saved_of, return_answer}

-- an answer, with the saved word where it is taken
abbrev pub with_word : ℕ → Result Unit ReturnRefusal → Result ℕ ReturnRefusal
with_word word (Ok u) = Ok word
with_word word (Err r) = Err r

abbrev pub judged : Guest → Result ℕ ReturnRefusal
judged s = with_word (saved_of (mode_of s) s.saved) (return_answer s)
