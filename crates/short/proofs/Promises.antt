-- The answer of each call carries its number, mask and count: the promises of crate form.
-- Assumes nothing.
use mathlib.Core.Path.{◌≡◌, refl}
use Prim.Native.Nat.{ℕ}
use Rattle.std.specs.Prelude.{Result, Ok, Err}
use Rattle.std.specs.Result.{result_flatten}
use Rattle.edition.specs.declared.Refusal.{Refusal}
use Rattle.short_rule.specs.Edition.{mask_of}
use Rattle.form.proofs.Promises as Forms
use Rattle.form.proofs.Shows.{own_shows}
use Rattle.registers.specs.declared.Hsr.{Hsr}
use Rattle.short_record.specs.declared.kinds.Record.{Record}
use Rattle.short.specs.Form.{short_form}
use Rattle.short.specs.Reading.{read_of, Reading}
use Rattle.short.specs.Writing.{write_of, Writing}
use Rattle.short.specs.Carry.{rewritten_of, Rewriting, carried_of, Carrying}
use Rattle.short.proofs.Instance.{sound, written_shows}

pub reads : (e : ℕ) (hsr : Hsr) {a : Result Record Refusal} → a ≡ read_of e hsr → Reading e hsr a
unfolding read_of mask_of
reads e hsr same = Forms.reading short_form sound own_shows e hsr.0 same

pub writes : (e : ℕ) (r : Record) {a : Result Hsr Refusal} → a ≡ write_of e r → Writing e r a
unfolding write_of mask_of
writes e r same = Forms.writing short_form sound written_shows e r same

pub rewrites : (e : ℕ) (hsr : Hsr) {a : Result Hsr Refusal} → a ≡ rewritten_of e hsr → Rewriting e hsr a
unfolding rewritten_of mask_of
rewrites e hsr same = Forms.rewriting short_form sound written_shows e hsr.0 same

pub carries : (writer reader : ℕ) (r : Record) {c : Result (Result Record Refusal) Refusal} → c ≡ carried_of writer reader r → Carrying writer reader r c
unfolding carried_of mask_of
carries writer reader r same =
    Forms.carrying short_form sound writer reader r Err Ok result_flatten (λ refusal. refl) (λ a. refl) same
