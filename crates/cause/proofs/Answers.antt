-- What the call promises, by its equation alone, and each refusal exactly.
-- Assumes nothing.
use mathlib.Core.Path.{◌≡◌, refl}
use mathlib.Core.Bool.{Bool, true, false, cond}
use mathlib.Core.Logic.{◌↔◌}
use Prim.Native.Nat.{ℕ}
use Rattle.std.specs.Prelude.{Option, Some, None, Result, Err}
use Rattle.bits.specs.Decide.{decide, FirstFails}
use Rattle.promise.proofs.Promises.{first_exactly, promised as answers}
use Rattle.record.specs.Addresses.{addresses_of}
use Rattle.record.specs.declared.kinds.Addresses.{Addresses}
use Rattle.record.specs.declared.kinds.Record.{Record}
use Rattle.record.specs.declared.origin.Origin.{Origin}
use Rattle.cause.specs.declared.answer.CauseRefusal.{CauseRefusal}
use Rattle.cause.specs.declared.answer.CauseRefusal.TheVariants.{NoEdition}
use Rattle.cause.specs.declared.kind.Cause.{Cause}
use Rattle.cause.specs.Answer.{cause_number, had, is_abort, cause_numbers, by_addresses, cause_of, CausePromise}

number_decided : (origin : Origin) (r : Record) → cause_number (cause_of origin r) ≡ decide (cause_numbers origin r) 0
unfolding cause_of
number_decided origin r = go (had origin r) (addresses_of r)
  where
    go : (b : Bool) (a : Option Addresses) → cause_number (cond b (by_addresses a) (Err NoEdition)) ≡ cond b (cond (is_abort a) 0 18) 5
    go true None = refl
    go true (Some Addresses.Virtual) = refl
    go true (Some (Addresses.Abort fnv s1ptw code)) = refl
    go false a = refl

pub promised : (origin : Origin) (r : Record) {a : Result Cause CauseRefusal} → a ≡ cause_of origin r → CausePromise origin r a
promised origin r e = answers cause_number (cause_numbers origin r) e (number_decided origin r)

-- EACH REFUSAL EXACTLY: 5 where no edition has the record, 18 where it is no abort, and 0 exactly when neither
pub decided : (origin : Origin) (r : Record) (k : ℕ) → (cause_number (cause_of origin r) ≡ k) ↔ FirstFails k (cause_numbers origin r)
decided origin r = first_exactly (cause_numbers origin r) tt (promised origin r refl)
