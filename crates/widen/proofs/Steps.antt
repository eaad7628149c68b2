-- The change, one test after the other, as the code makes them; and its number.
-- Assumes nothing.
use mathlib.Core.Path.{◌≡◌, refl}
use mathlib.Core.Bool.{true, false}
use Prim.Native.Nat.{ℕ}
use lib.Dec.{eqb}
use Rattle.std.specs.Prelude.{Result, Ok, Err}
use Rattle.promise.proofs.Promises.{by_tests}
use Rattle.record.specs.declared.origin.Origin.{Origin}
use Rattle.rule.specs.Has.{editions_of as long_editions}
use Rattle.short_record.specs.declared.kinds.Record.{Record as Short}
use Rattle.short_rule.specs.Has.{editions_of as short_editions}
use Rattle.status.specs.Mode.{is_mode}
use Rattle.record.specs.declared.kinds.Record.{Record as Long}
use Rattle.widen.specs.declared.WidenRefusal.{WidenRefusal}
use Rattle.widen.specs.declared.WidenRefusal.TheVariants.{BadMode, NoEdition}
use Rattle.widen.specs.Register.{uses_pc}
use Rattle.widen.specs.Long.{long_of}
use Rattle.widen.specs.Widening.{widen_tests, widen_of, number_widened, Widening}

module _ (mode : ℕ) (r : Short) where
  pub widen_mode : is_mode mode ≡ false → widen_of mode r ≡ Err BadMode
  unfolding widen_of
  widen_mode k = simp k

  module _ (k : is_mode mode ≡ true) where
    pub widen_short : eqb (short_editions r) 0 ≡ true → widen_of mode r ≡ Err NoEdition
    unfolding widen_of
    widen_short s = simp (k, s)

    module _ (s : eqb (short_editions r) 0 ≡ false) where
      pub widen_pc : uses_pc r ≡ true → widen_of mode r ≡ Err NoEdition
      unfolding widen_of
      widen_pc p = simp (k, s, p)

      module _ (p : uses_pc r ≡ false) where
        pub widen_long : eqb (long_editions Origin.AArch32 (long_of mode r)) 0 ≡ true → widen_of mode r ≡ Err NoEdition
        unfolding widen_of
        widen_long l = simp (k, s, p, l)

        pub widen_given : eqb (long_editions Origin.AArch32 (long_of mode r)) 0 ≡ false → widen_of mode r ≡ Ok (long_of mode r)
        unfolding widen_of
        widen_given l = simp (k, s, p, l)

  pub widens : {a : Result Long WidenRefusal} → a ≡ widen_of mode r → Widening mode r a
  unfolding widen_of
  widens = by_tests number_widened (widen_tests mode r) (Ok (long_of mode r)) refl refl
