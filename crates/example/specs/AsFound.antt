-- What an answer leaves of the guest: where the monitor has the access still to make, and where nothing was done, the state is as it was
-- found.
use Rattle.std.specs.Prelude.{◌≡◌, Result, Ok, Err}
use Rattle.exception.specs.declared.state.Guest.{Guest}
use Rattle.example.specs.declared.Next.{Next}
use Rattle.example.specs.declared.Next.TheVariants.{Resume, Give, Perform}
use Rattle.example.specs.declared.refusals.Refusal.{Refusal}
use Rattle.example.specs.declared.Answered.{Answered}

abbrev pub as_found_by : Result Next Refusal → Guest → Guest → Type 0
as_found_by (Ok Resume) before after = Unit {0}
as_found_by (Ok (Give value)) before after = Unit {0}
as_found_by (Ok (Perform access)) before after = after ≡ before
as_found_by (Err refusal) before after = after ≡ before

abbrev pub AsFound : Guest → Answered → Type 0
AsFound before r = as_found_by r.next before r.state
