-- Demand 3 for words and records: whatever word one edition puts out for a record, reading it in another, or in the same, gives back that
-- very record exactly when the reading edition has it, and otherwise refusal 6 with the editions that have the record, and their number.
-- Assumes nothing.
use mathlib.Core.Path.{◌≡◌}
use mathlib.Core.Bool.{true, false}
use Prim.Native.Nat.{ℕ}
use lib.Count.{ones}
use Rattle.std.specs.Prelude.{Ok, Err}
use Rattle.short_rule.specs.Edition.{is_edition, mask_of}
use Rattle.edition.specs.declared.Refusal.TheVariants.{OtherEditions}
use Rattle.form.specs.Form as Form
use Rattle.form.proofs.Demand3 as Forms3
use Rattle.form.proofs.Shows.{own_shows}
use Rattle.registers.specs.declared.Hsr.{Hsr}
use Rattle.short_record.specs.declared.kinds.Record.{Record}
use Rattle.short_rule.specs.Has.{has, editions_of}
use Rattle.short.specs.Form.{short_form}
use Rattle.short.specs.Reading.{read_of}
use Rattle.short.specs.Writing.{write_of}
use Rattle.short.proofs.Instance.{sound, written_shows}

-- the edition a puts out the word for the record r; the edition b reads it
module _ (a b : ℕ) (hsr : Hsr) (r : Record) (put : write_of a r ≡ Ok hsr) where
  pub given_back : has b r ≡ true → read_of b hsr ≡ Ok r
  unfolding read_of write_of
  given_back = Forms3.given_back short_form sound own_shows written_shows a b hsr.0 r put

  pub given_back_only : (s : Record) → read_of b hsr ≡ Ok s → has b r ≡ true
  unfolding read_of write_of
  given_back_only = Forms3.given_back_only short_form sound own_shows written_shows a b hsr.0 r put

  pub refused_six : is_edition b ≡ true → has b r ≡ false → read_of b hsr ≡ Err (OtherEditions (editions_of r) (ones (editions_of r)))
  unfolding read_of write_of mask_of
  refused_six = Forms3.refused_six short_form sound own_shows written_shows a b hsr.0 r put

  -- DEMAND 3 in one equation
  pub read_back_lem : read_of b hsr ≡ Form.read_back short_form b r
  unfolding read_of write_of
  read_back_lem = Forms3.read_back_lem short_form sound own_shows written_shows a b hsr.0 r put
