-- The long form is a form: what `form` asks of it, once for all its laws.
-- Assumes nothing.
use mathlib.Core.Path.{◌≡◌, refl, ◌∙◌, ap}
use mathlib.Core.Bool.{true}
use Prim.Native.Nat.{ℕ, ◌%◌, ◌^◌}
use native.Mathlib.Nat.{div-eq_of_lt}
use native.Mathlib.Omega.{arith}
use borrow.Author.Tests.{eq-eqb}
use Rattle.std.specs.Prelude.{Result, Ok, Err}
use Rattle.bits.specs.Decide.{AllPass}
use Rattle.edition.specs.declared.Refusal.{Refusal}
use Rattle.form.proofs.Forms.{Sound}
use Rattle.form.proofs.Shows.{Shows}
use Rattle.layout.specs.Fields.{record_word}
use Rattle.record.specs.Class.{is_class}
use Rattle.record.specs.declared.origin.Origin.{Origin}
use Rattle.record.specs.declared.kinds.Record.{Record}
use Rattle.layout.proofs.RoundTrip.{record_back, word_fits, word_class, head_test}
use Rattle.rule.specs.Il.{il_rule}
use Rattle.rule.specs.Has.{has}
use Rattle.rule.proofs.Lengths.{ignores_isv}
use Rattle.rule.proofs.Having.{has_edition, has_class, has_own, has_origin, has_il, has_fits}
use Rattle.syndrome.specs.Form.{long_form}
use Rattle.syndrome.specs.Answer.{as_written, written_means}
use Rattle.syndrome.specs.Tests.{upper_clear, word_il, read_tests}

module _ (o : Origin) where
  module _ (e : ℕ) (r : Record) (h : has o e r ≡ true) where
    upper : upper_clear (record_word r) ≡ true
    upper = eq-eqb _ _ (ap (λ (n : ℕ). n % 2 ^ 32) (div-eq_of_lt (word_fits r (has_fits o e r h))))

    long : word_il o (record_word r) ≡ true
    long = head_test (il_rule o) (ignores_isv o) r (has_own o e r h) (has_fits o e r h) ∙ has_il o e r h

    reads : AllPass (read_tests o (record_word r))
    reads = (upper, (ap (is_class o) (word_class r (has_fits o e r h)) ∙ has_origin o e r h, (long, tt)))

  pub sound : Sound (long_form o)
  sound =
      record {
        known = has_edition o;
        back = λ e r h. record_back r (has_own o e r h) (has_fits o e r h);
        read_passes = reads;
        read_early = λ w. (λ six. omega (arith, six), (λ six. omega (arith, six), (λ six. omega (arith, six), tt)));
        write_passes = λ e r h. (has_class o e r h, (has_il o e r h, tt));
        write_early = λ r. (λ six. omega (arith, six), (λ six. omega (arith, six), tt));
      }

-- the answer of code shows the call's: its word is a register's
pub written_shows : Shows as_written written_means
written_shows = record { same = by }
  where
    by : (a : Result ℕ Refusal) → written_means (as_written a) ≡ a
    by (Ok w) = refl
    by (Err refusal) = refl
