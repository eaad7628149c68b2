-- The cause that a record tells of: 5 where no edition has the record, 18 where it is no instruction or data abort.
use Rattle.std.specs.Prelude.{ℕ, Bool, true, false, not, cond, List, [], ◌∷◌, eqb, Option, Some, None, Result, Ok, Err}
use Rattle.bits.specs.Decide.{Test, needs}
use Rattle.promise.specs.Promise.{Answers}
use Rattle.record.specs.Addresses.{addresses_of}
use Rattle.record.specs.declared.kinds.Addresses.{Addresses}
use Rattle.record.specs.declared.kinds.Record.{Record}
use Rattle.record.specs.declared.origin.Origin.{Origin}
use Rattle.rule.specs.Has.{editions_of}
use Rattle.cause.specs.declared.answer.CauseRefusal.{CauseRefusal}
use Rattle.cause.specs.declared.answer.CauseRefusal.TheVariants.{NoEdition, NoAbort}
use Rattle.cause.specs.declared.kind.Cause.{Cause}
use Rattle.cause.specs.Kind.{cause_at}

-- the number of each answer
abbrev pub cause_number : Result Cause CauseRefusal → ℕ
cause_number (Ok c) = 0
cause_number (Err NoEdition) = 5
cause_number (Err NoAbort) = 18

-- some edition has the record, from this origin
abbrev pub had : Origin → Record → Bool
had origin r = not (eqb (editions_of origin r) 0)

abbrev pub is_abort : Option Addresses → Bool
is_abort None = false
is_abort (Some Addresses.Virtual) = false
is_abort (Some (Addresses.Abort fnv s1ptw code)) = true

-- the tests in their order, each with its number; 0 comes where none fails
abbrev pub cause_numbers : Origin → Record → List (Test ℕ)
cause_numbers origin r = needs (had origin r) 5 ∷ needs (is_abort (addresses_of r)) 18 ∷ []

-- S1PTW and the fault code of an abort, of either kind
abbrev pub by_addresses : Option Addresses → Result Cause CauseRefusal
by_addresses None = Err NoAbort
by_addresses (Some Addresses.Virtual) = Err NoAbort
by_addresses (Some (Addresses.Abort fnv s1ptw code)) = Ok (cause_at s1ptw code)

unfoldable pub cause_of : Origin → Record → Result Cause CauseRefusal
cause_of origin r = cond (had origin r) (by_addresses (addresses_of r)) (Err NoEdition)

abbrev pub CausePromise : Origin → Record → Result Cause CauseRefusal → Type 0
CausePromise origin r = Answers cause_number (cause_of origin r) (cause_numbers origin r)
