-- The short form is a form: what `form` asks of it, once for all its laws.
-- Assumes nothing.
use mathlib.Core.Path.{◌≡◌, refl, ◌∙◌}
use mathlib.Core.Bool.{true}
use Prim.Native.Nat.{ℕ}
use native.Mathlib.Omega.{arith}
use Rattle.std.specs.Prelude.{Result, Ok, Err}
use Rattle.bits.specs.Decide.{AllPass}
use Rattle.edition.specs.declared.Refusal.{Refusal}
use Rattle.form.proofs.Forms.{Sound}
use Rattle.form.proofs.Shows.{Shows}
use Rattle.short_layout.specs.Fields.{record_word}
use Rattle.short_record.specs.declared.kinds.Record.{Record}
use Rattle.short_layout.proofs.RoundTrip.{record_back, word_class, head_test}
use Rattle.short_rule.specs.Il.{il_rule}
use Rattle.short_rule.specs.Has.{has}
use Rattle.short_rule.proofs.Lengths.{ignores_isv}
use Rattle.short_rule.proofs.Having.{has_edition, has_own, has_il, has_fits}
use Rattle.short.specs.Form.{short_form}
use Rattle.short.specs.Answer.{as_written, written_means}
use Rattle.short.specs.Tests.{word_il, read_tests}

module _ (e : ℕ) (r : Record) (h : has e r ≡ true) where
  long : word_il (record_word r) ≡ true
  long = head_test il_rule ignores_isv r (has_own e r h) (has_fits e r h) ∙ has_il e r h

  reads : AllPass (read_tests (record_word r))
  reads = (word_class r (has_own e r h) (has_fits e r h), (long, tt))

pub sound : Sound short_form
sound =
    record {
      known = has_edition;
      back = λ e r h. record_back r (has_own e r h) (has_fits e r h);
      read_passes = reads;
      read_early = λ w. (λ six. omega (arith, six), (λ six. omega (arith, six), tt));
      write_passes = λ e r h. (has_own e r h, (has_il e r h, tt));
      write_early = λ r. (λ six. omega (arith, six), (λ six. omega (arith, six), tt));
    }

-- the answers of writing show those of the call; reading's are the call's own
pub written_shows : Shows as_written written_means
written_shows = record { same = by }
  where
    by : (a : Result ℕ Refusal) → written_means (as_written a) ≡ a
    by (Ok w) = refl
    by (Err refusal) = refl
