-- Demand 3 for words and records: whatever word one edition puts out for a record, reading it in another, or in the same, gives back that
-- very record exactly when the reading edition has it, and otherwise refusal 6 with the editions that have the record, and their number.
-- Assumes nothing.
use mathlib.Core.Path.{◌≡◌}
use mathlib.Core.Bool.{true, false}
use Prim.Native.Nat.{ℕ}
use lib.Count.{ones}
use Rattle.std.specs.Prelude.{Ok, Err}
use Rattle.edition.specs.Feature.{is_edition}
use Rattle.edition.specs.Mask.{mask_of}
use Rattle.edition.specs.declared.Refusal.TheVariants.{OtherEditions}
use Rattle.form.specs.Form as Form
use Rattle.form.proofs.Demand3 as Forms3
use Rattle.form.proofs.Shows.{own_shows}
use Rattle.record.specs.declared.origin.Origin.{Origin}
use Rattle.registers.specs.declared.Esr.{Esr}
use Rattle.record.specs.declared.kinds.Record.{Record}
use Rattle.rule.specs.Has.{has, editions_of}
use Rattle.syndrome.specs.Form.{long_form}
use Rattle.syndrome.specs.Reading.{read_of}
use Rattle.syndrome.specs.Writing.{write_of}
use Rattle.syndrome.proofs.Instance.{sound, written_shows}

module _ (o : Origin) where
  -- the edition a puts out the word for the record r; the edition b reads it
  module _ (a b : ℕ) (esr : Esr) (r : Record) (put : write_of o a r ≡ Ok esr) where
    pub given_back : has o b r ≡ true → read_of o b esr ≡ Ok r
    unfolding read_of write_of
    given_back = Forms3.given_back (long_form o) (sound o) own_shows written_shows a b esr.0 r put

    pub given_back_only : (s : Record) → read_of o b esr ≡ Ok s → has o b r ≡ true
    unfolding read_of write_of
    given_back_only = Forms3.given_back_only (long_form o) (sound o) own_shows written_shows a b esr.0 r put

    pub refused_six : is_edition b ≡ true → has o b r ≡ false
        → read_of o b esr ≡ Err (OtherEditions (editions_of o r) (ones (editions_of o r)))
    unfolding read_of write_of mask_of
    refused_six = Forms3.refused_six (long_form o) (sound o) own_shows written_shows a b esr.0 r put

    -- DEMAND 3 in one equation
    pub read_back_lem : read_of o b esr ≡ Form.read_back (long_form o) b r
    unfolding read_of write_of
    read_back_lem = Forms3.read_back_lem (long_form o) (sound o) own_shows written_shows a b esr.0 r put
