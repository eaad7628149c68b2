-- The numbers that writing may answer, when each comes, and what it leaves of the buffer.
-- Assumes nothing.
use mathlib.Core.Path.{◌≡◌, refl, sym, ◌∙◌}
use mathlib.Core.Bool.{true, true≢false}
use mathlib.Core.List.{List}
use mathlib.Core.Logic.{◌↔◌, ◌⊎◌, inl, inr}
use Prim.Native.Nat.{ℕ, ◌≤◌, ◌<◌}
use borrow.Author.Tests.{leb-true, leb-false, le-leb, lt-leb, eqb-true, eq-eqb}
use lib.Dec.{eqb, lit≤}
use Rattle.std.specs.Prelude.{Result, Ok, Err}
use lib.ListN.{length, get_or}
use Rattle.bits.specs.Decide.{decide, FirstFails}
use Rattle.bits.proofs.Booleans.{and_left, and_right, not_true_false}
use Rattle.bits.proofs.Deciding.{decide_relabel, decided_exactly}
use Rattle.log_section.specs.Log.{domain_of, domains_fit}
use Rattle.log_section.proofs.Domains.{domains_fit_exactly}
use Rattle.log_writer.specs.Lists.{Lists}
use Rattle.log_writer.specs.Write.{number_of, length_in, length_by, agreeing, write_tests, written_of, write_numbers, buffer_after}
use Rattle.log_writer.specs.declared.answer.WriteRefusal.{WriteRefusal}
use Rattle.log_writer.specs.declared.answer.WriteRefusal.TheVariants.{TooLong, Unequal, NoRoom, WideDomain}

-- as many FARs and as many HPFARs as syndromes
abbrev pub Agree : Lists → Type 0
Agree l = (length l.syndromes ≡ length l.fars) × (length l.syndromes ≡ length l.hpfars)

agree_true : (l : Lists) → Agree l → agreeing l ≡ true
agree_true l p =
    let t = eq-eqb (length l.syndromes) (length l.fars) p.0 in
    let u = eq-eqb (length l.syndromes) (length l.hpfars) p.1 in
    rw (t, u)

true_agree : (l : Lists) → agreeing l ≡ true → Agree l
true_agree l e =
    let f = eqb (length l.syndromes) (length l.fars) in
    let h = eqb (length l.syndromes) (length l.hpfars) in (
      eqb-true (length l.syndromes) (length l.fars) (and_left f h e),
      eqb-true (length l.syndromes) (length l.hpfars) (and_right f h e),
    )

-- each injection's domain is at most 15
abbrev pub DomainsFit : Lists → Type 0
DomainsFit l = (i : ℕ) → i < length l.injections → domain_of (get_or l.injections i 0) ≤ 15

fit_true : (l : Lists) → DomainsFit l → domains_fit l.injections ≡ true
fit_true l = (domains_fit_exactly l.injections).1

true_fit : (l : Lists) → domains_fit l.injections ≡ true → DomainsFit l
true_fit l = (domains_fit_exactly l.injections).0

module _ (l : Lists) (room : ℕ) where
  pub number_decided : number_of (written_of l room) ≡ decide (write_numbers l room) 0
  unfolding written_of
  number_decided = decide_relabel number_of (write_tests l room) (Ok (length_by l))

  -- EACH NUMBER EXACTLY: a number comes exactly when its test is the first that fails, and 0 exactly when none fails
  pub write_exactly : (k : ℕ) → (number_of (written_of l room) ≡ k) ↔ FirstFails k (write_numbers l room)
  write_exactly k =
      let law = decided_exactly (write_numbers l room) tt k in
      (λ e. law.0 (sym number_decided ∙ e), λ f. number_decided ∙ law.1 f)

  -- the same in words, number by number
  pub sixteen_exactly : (number_of (written_of l room) ≡ 16) ↔ (65536 < length_by l)
  sixteen_exactly = (
    λ e. leb-false (length_by l) 65536 ((write_exactly 16).0 e),
    λ h. (write_exactly 16).1 (lt-leb (length_by l) 65536 h),
  )

  pub fifteen_exactly : (number_of (written_of l room) ≡ 15) ↔ ((length_by l ≤ 65536) × (Agree l → ⊥))
  fifteen_exactly = (
    λ e. let f = (write_exactly 15).0 e in (leb-true (length_by l) 65536 f.0, λ p. true≢false (sym (agree_true l p) ∙ f.1)),
    λ h. (write_exactly 15).1 (le-leb (length_by l) 65536 h.0, not_true_false (agreeing l) (λ t. h.1 (true_agree l t))),
  )

  -- 20 exactly when a domain is above 15, after 16 and 15
  pub twenty_exactly : (number_of (written_of l room) ≡ 20) ↔ ((length_by l ≤ 65536) × Agree l × (DomainsFit l → ⊥))
  twenty_exactly = (
    λ e. let f = (write_exactly 20).0 e in (
      leb-true (length_by l) 65536 f.0,
      true_agree l f.1.0,
      λ p. true≢false
          (sym (fit_true l p) ∙ f.1.1),
    ),
    λ h. (write_exactly 20).1 (
      le-leb (length_by l) 65536 h.0,
      (agree_true l h.1, not_true_false (domains_fit l.injections) (λ t. h.2 (true_fit l t))),
    ),
  )

  -- 17 exactly when the length by the counts is greater than the room, after 16, 15 and 20
  pub seventeen_exactly : (number_of (written_of l room) ≡ 17) ↔ ((length_by l ≤ 65536) × Agree l × DomainsFit l × (room < length_by l))
  seventeen_exactly = (
    λ e. let f = (write_exactly 17).0 e in (
      leb-true (length_by l) 65536 f.0,
      true_agree l f.1.0,
      true_fit l f.1.1.0,
      leb-false (length_by l) room f.1.1.1,
    ),
    λ h. (write_exactly 17).1 (
      le-leb (length_by l) 65536 h.0,
      (agree_true l h.1, (fit_true l h.2, lt-leb (length_by l) room h.3)),
    ),
  )

  pub zero_exactly : (number_of (written_of l room) ≡ 0) ↔ ((length_by l ≤ 65536) × Agree l × DomainsFit l × (length_by l ≤ room))
  zero_exactly = (
    λ e. let f = (write_exactly 0).0 e in (
      leb-true (length_by l) 65536 f.0,
      true_agree l f.1.0,
      true_fit l f.1.1.0,
      leb-true (length_by l) room f.1.1.1.0,
    ),
    λ h. (write_exactly 0).1 (
      le-leb (length_by l) 65536 h.0,
      (agree_true l h.1, (fit_true l h.2, (le-leb (length_by l) room h.3, refl))),
    ),
  )

-- no other number comes: 0 with the log's length, 15 to 17 and 20 without
pub write_numbers_lem : (a : Result ℕ WriteRefusal)
    → (number_of a ≡ 0) ⊎ ((((15 ≤ number_of a) × (number_of a ≤ 17)) ⊎ (number_of a ≡ 20)) × (length_in a ≡ 0))
write_numbers_lem (Ok n) = inl refl
write_numbers_lem (Err Unequal) = inr (inl (lit≤ tt, lit≤ tt), refl)
write_numbers_lem (Err TooLong) = inr (inl (lit≤ tt, lit≤ tt), refl)
write_numbers_lem (Err NoRoom) = inr (inl (lit≤ tt, lit≤ tt), refl)
write_numbers_lem (Err WideDomain) = inr (inr refl, refl)

-- every refusal leaves the buffer untouched
pub refused_untouched : (a : Result ℕ WriteRefusal) (log before : List ℕ) → (number_of a ≡ 0 → ⊥) → buffer_after a log before ≡ before
refused_untouched (Ok n) log before never = absurd (never refl)
refused_untouched (Err refusal) log before never = refl
