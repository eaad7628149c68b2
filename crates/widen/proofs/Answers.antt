-- The change exactly: when a long record comes, and which; and each refusal.
-- Assumes nothing.
use mathlib.Core.Path.{◌≡◌, refl, ◌∙◌, sym, ap, subst}
use mathlib.Core.Bool.{Bool, true, false, true≢false}
use mathlib.Core.Logic.{◌↔◌, ◌⊎◌, inl, inr, ⊎_elim}
use Prim.Native.Nat.{ℕ}
use lib.Dec.{eqb}
use Rattle.std.specs.Prelude.{Ok}
use borrow.Author.Tests.{eqb-false, ne_eqb}
use Rattle.bits.specs.Decide.{FailsWith}
use Rattle.bits.proofs.Arms.{absurd_answer}
use Rattle.promise.proofs.Promises.{fails_exactly, number_is}
use Rattle.edition.specs.Feature.{editions as long_count}
use Rattle.edition.specs.Mask.{mask_below, mask_of as long_mask}
use Rattle.edition.proofs.Masks.{some_or_none, mask_zero}
use Rattle.form.proofs.Calls.{OneHas}
use Rattle.record.specs.declared.origin.Origin.{Origin}
use Rattle.record.specs.declared.kinds.Record.{Record as Long}
use Rattle.rule.specs.Has.{has as long_has, editions_of as long_editions}
use Rattle.short_record.specs.declared.kinds.Record.{Record as Short}
use Rattle.short_rule.specs.Edition.{editions as short_count, mask_of as short_mask}
use Rattle.short_rule.specs.Has.{has as short_has, editions_of as short_editions}
use Rattle.status.specs.Mode.{is_mode}
use Rattle.widen.specs.Register.{uses_pc}
use Rattle.widen.specs.Long.{long_of}
use Rattle.widen.specs.Widening.{widen_of, widen_list, number_widened}
use Rattle.widen.proofs.Steps.{widen_mode, widen_short, widen_pc, widen_long, widen_given, widens}

-- a mask that isn't empty holds an edition, and the other way
some_edition : (n : ℕ) (test : ℕ → Bool) → eqb (mask_below n test) 0 ≡ false → OneHas n test
some_edition n test e = ⊎_elim (λ z. absurd (eqb-false _ _ e z)) (λ found. found) (some_or_none n test)

not_empty : (n : ℕ) (test : ℕ → Bool) → OneHas n test → eqb (mask_below n test) 0 ≡ false
not_empty n test found = ne_eqb _ _ (λ z. true≢false (sym found.2 ∙ mask_zero n test z found.0 found.1))

module _ (mode : ℕ) (r : Short) where
  -- what the change asks for: an accepted mode, a record that some short edition has, no known register 15, and a result that some long
  -- edition has
  abbrev pub Allowed : Type 0
  Allowed =
      (is_mode mode ≡ true) × OneHas short_count (λ e. short_has e r) × (uses_pc r ≡ false)
      × OneHas long_count (λ e. long_has Origin.AArch32 e (long_of mode r))

  given : Allowed → widen_of mode r ≡ Ok (long_of mode r)
  unfolding short_mask long_mask
  given ok =
      widen_given mode r ok.0 (not_empty short_count (λ e. short_has e r) ok.1) ok.2
      (not_empty long_count (λ e. long_has Origin.AArch32 e (long_of mode r)) ok.3)

  asked : (l : Long) → widen_of mode r ≡ Ok l → Allowed
  unfolding short_mask long_mask
  asked l t = by (is_mode mode) refl (eqb (short_editions r) 0) refl (uses_pc r) refl (eqb (long_editions Origin.AArch32 (long_of mode r)) 0)
      refl
    where
      by : (k : Bool) → is_mode mode ≡ k → (s : Bool) → eqb (short_editions r) 0 ≡ s → (p : Bool) → uses_pc r ≡ p → (n : Bool)
          → eqb (long_editions Origin.AArch32 (long_of mode r)) 0 ≡ n → Allowed
      by false k s hs p hp n hn = absurd_answer (cc (t, widen_mode mode r k))
      by true k true hs p hp n hn = absurd_answer (cc (t, widen_short mode r k hs))
      by true k false hs true hp n hn = absurd_answer (cc (t, widen_pc mode r k hs hp))
      by true k false hs false hp true hn = absurd_answer (cc (t, widen_long mode r k hs hp hn))
      by true k false hs false hp false hn =
          (k, some_edition short_count (λ e. short_has e r) hs, hp, some_edition long_count (λ e. long_has Origin.AArch32 e (long_of mode r)) hn)

  -- THE CHANGE EXACTLY: a long record comes exactly when all four hold, and it is the one that the short record's fields make
  pub widened_exactly : (l : Long) → (widen_of mode r ≡ Ok l) ↔ (Allowed × (long_of mode r ≡ l))
  widened_exactly l = (
    λ t. let ok = asked l t in
        let made = given ok in (ok, cc (t, made)),
    λ h. given h.0 ∙ ap Ok h.1,
  )

  -- what it answers, some long edition has
  pub widened_had : (l : Long) → widen_of mode r ≡ Ok l → OneHas long_count (λ e. long_has Origin.AArch32 e l)
  widened_had l t =
      let h = (widened_exactly l).0 t in
      subst (λ (x : Long). OneHas long_count (λ e. long_has Origin.AArch32 e x)) h.1 h.0.3

  -- each number exactly: three tests answer 5
  pub widen_refused_exactly : (k : ℕ) → (number_widened (widen_of mode r) ≡ k) ↔ FailsWith k (widen_list mode r)
  widen_refused_exactly = fails_exactly (widen_list mode r) (widens mode r refl)

  -- the numbers are 0, 5 and 9
  pub widen_numbers : (number_widened (widen_of mode r) ≡ 0) ⊎ ((number_widened (widen_of mode r) ≡ 5) ⊎ (number_widened (widen_of mode r) ≡ 9))
  widen_numbers =
      number_is (λ k. (k ≡ 0) ⊎ ((k ≡ 5) ⊎ (k ≡ 9))) (widen_list mode r) (widens mode r refl)
      (inr (inr refl), (inr (inl refl), (inr (inl refl), (inr (inl refl), tt))))
      (inl refl)

  -- the mode is tested first
  pub mode_first : is_mode mode ≡ false → number_widened (widen_of mode r) ≡ 9
  mode_first k = ap number_widened (widen_mode mode r k)
