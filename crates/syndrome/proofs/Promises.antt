-- The answer of each call carries its number, mask and count: the promises of crate form.
-- Assumes nothing.
use mathlib.Core.Path.{◌≡◌, refl}
use Prim.Native.Nat.{ℕ}
use Rattle.std.specs.Prelude.{Result, Ok, Err}
use Rattle.std.specs.Result.{result_flatten}
use Rattle.edition.specs.Mask.{mask_of}
use Rattle.edition.specs.declared.Refusal.{Refusal}
use Rattle.form.proofs.Promises as Forms
use Rattle.form.proofs.Shows.{own_shows}
use Rattle.record.specs.declared.origin.Origin.{Origin}
use Rattle.registers.specs.declared.Esr.{Esr}
use Rattle.record.specs.declared.kinds.Record.{Record}
use Rattle.syndrome.specs.Form.{long_form}
use Rattle.syndrome.specs.Reading.{read_of, Reading}
use Rattle.syndrome.specs.Writing.{write_of, Writing}
use Rattle.syndrome.specs.Carry.{rewritten_of, Rewriting, carried_of, Carrying}
use Rattle.syndrome.proofs.Instance.{sound, written_shows}

module _ (o : Origin) where
  pub reads : (e : ℕ) (esr : Esr) {a : Result Record Refusal} → a ≡ read_of o e esr → Reading o e esr a
  unfolding read_of mask_of
  reads e esr same = Forms.reading (long_form o) (sound o) own_shows e esr.0 same

  pub writes : (e : ℕ) (r : Record) {a : Result Esr Refusal} → a ≡ write_of o e r → Writing o e r a
  unfolding write_of mask_of
  writes e r same = Forms.writing (long_form o) (sound o) written_shows e r same

  pub rewrites : (e : ℕ) (esr : Esr) {a : Result Esr Refusal} → a ≡ rewritten_of o e esr → Rewriting o e esr a
  unfolding rewritten_of mask_of
  rewrites e esr same = Forms.rewriting (long_form o) (sound o) written_shows e esr.0 same

  pub carries : (writer reader : ℕ) (r : Record) {c : Result (Result Record Refusal) Refusal}
      → c ≡ carried_of o writer reader r → Carrying o writer reader r c
  unfolding carried_of mask_of
  carries writer reader r same =
      Forms.carrying (long_form o) (sound o) writer reader r Err Ok result_flatten (λ refusal. refl) (λ a. refl) same
