-- The change of a short record to a long one (request C-11 of document 02): 9 for a mode that 01 doesn't accept, first; then 5 for a record
-- that no short edition has, for a known register 15, or for a result that no long edition has; else the long record.
use Rattle.std.specs.Prelude.{ℕ, Bool, not, List, [], ◌∷◌, eqb, Result, Ok, Err}
use Rattle.bits.specs.Decide.{Test, needs, decide, relabel}
use Rattle.promise.specs.Promise.{Answers}
use Rattle.record.specs.declared.origin.Origin.{Origin}
use Rattle.record.specs.declared.kinds.Record.{Record as Long}
use Rattle.rule.specs.Has.{editions_of as long_editions}
use Rattle.short_record.specs.declared.kinds.Record.{Record as Short}
use Rattle.short_rule.specs.Has.{editions_of as short_editions}
use Rattle.status.specs.Mode.{is_mode}
use Rattle.widen.specs.declared.WidenRefusal.{WidenRefusal}
use Rattle.widen.specs.declared.WidenRefusal.TheVariants.{BadMode, NoEdition}
use Rattle.widen.specs.Register.{uses_pc}
use Rattle.widen.specs.Long.{long_of}

-- some edition has the record: its mask isn't empty
abbrev pub some_short : Short → Bool
some_short r = not (eqb (short_editions r) 0)

-- from AArch32, which a guest with short records is in
abbrev pub some_long : Long → Bool
some_long r = not (eqb (long_editions Origin.AArch32 r) 0)

-- the tests, each with its answer
abbrev pub widen_tests : ℕ → Short → List (Test (Result Long WidenRefusal))
widen_tests mode r =
    needs (is_mode mode) (Err BadMode)
    ∷ needs (some_short r) (Err NoEdition)
    ∷ needs (not (uses_pc r)) (Err NoEdition)
    ∷ needs (some_long (long_of mode r)) (Err NoEdition)
    ∷ []

unfoldable pub widen_of : ℕ → Short → Result Long WidenRefusal
widen_of mode r = decide (widen_tests mode r) (Ok (long_of mode r))

-- the number of each answer
abbrev pub number_widened : Result Long WidenRefusal → ℕ
number_widened (Ok r) = 0
number_widened (Err BadMode) = 9
number_widened (Err NoEdition) = 5

-- the tests, each with its number
abbrev pub widen_list : ℕ → Short → List (Test ℕ)
widen_list mode r = relabel number_widened (widen_tests mode r)

-- THE PROMISE: the answer, and its number, that of the first test that fails
abbrev pub Widening : ℕ → Short → Result Long WidenRefusal → Type 0
Widening mode r = Answers number_widened (widen_of mode r) (widen_list mode r)
