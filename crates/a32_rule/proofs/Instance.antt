-- A32 loads and stores are a form with one edition: what `form` asks of it, once for all its laws.
-- Assumes nothing.
use mathlib.Core.Path.{◌≡◌}
use mathlib.Core.Bool.{true}
use Prim.Native.Nat.{ℕ, ◌<◌}
use native.Mathlib.Omega.{arith}
use borrow.Author.Tests.{eqb-true}
use lib.Dec.{eqb}
use Rattle.bits.proofs.Booleans.{and_left, and_right}
use Rattle.form.proofs.Forms.{Sound}
use Rattle.a32_fields.specs.declared.kinds.Fields.{Fields}
use Rattle.a32_fields.proofs.RoundTrip.{fields_back}
use Rattle.a32_rule.specs.Legal.{legal}
use Rattle.a32_rule.specs.Answer.{has, loads_and_stores}
use Rattle.a32_rule.proofs.Having.{legal_fits, legal_own}

pub has_legal : (e : ℕ) (f : Fields) → has e f ≡ true → legal f ≡ true
has_legal e f h = and_right (eqb e 0) (legal f) h

only : (e : ℕ) (f : Fields) → has e f ≡ true → e < 1
only e f h = let z = eqb-true e 0 (and_left (eqb e 0) (legal f) h) in omega arith

pub sound : Sound loads_and_stores
sound =
    record {
      known = only;
      back = λ e f h. fields_back f (legal_own f (has_legal e f h)) (legal_fits f (has_legal e f h));
      read_passes = λ e f h. tt;
      read_early = λ w. tt;
      write_passes = λ e f h. tt;
      write_early = λ f. tt;
    }
