-- What is shown of a log: every entry of one that was accepted, of one that is cut short those that stand whole, and none of another.
-- Assumes nothing.
use mathlib.Core.Path.{◌≡◌, refl, sym, ap, ◌∙◌}
use mathlib.Core.Bool.{Bool, true, false, cond}
use mathlib.Core.List.{List}
use Prim.Native.Nat.{ℕ, zero, suc, ◌+◌, ◌-◌, ◌≤◌, ◌<◌}
use native.Mathlib.Omega.{arith}
use borrow.Author.Tests.{eq-eqb, ne_eqb, lt-ltb}
use lib.Dec.{eqb}
use lib.ListN.{length}
use Rattle.registers.specs.declared.Far.{Far}
use Rattle.registers.specs.declared.Hpfar.{Hpfar}
use Rattle.log_section.specs.Log.{entries_of}
use Rattle.trap_log.specs.Answer.{number_of, read_of}
use Rattle.log_section.specs.Look.{entry_given}
use Rattle.std.specs.Prelude.{Option, Some, Ok, Err}
use Rattle.trap_log.specs.declared.answer.LogRefusal.TheVariants.{TooLong, CutShort, LeftOver, Unequal, WideDomain}
use Rattle.log_section.specs.declared.entry.Entry.{Entry}
use Rattle.registers.specs.declared.Esr.{Esr}
use Rattle.log_cut.specs.Whole.{whole_entries, count_in, whole_count, whole_entry}
use Rattle.log_cut.proofs.Accepted.{accepted_whole, few_whole}
use Rattle.log_pieces.specs.Text.{is_shown, nothing, shown}

module _ (s : List ℕ) where
  shown_whole : is_shown (read_of s) ≡ true → shown s ≡ whole_entries s
  unfolding shown
  shown_whole z = ap (λ (t : Bool). cond t (whole_entries s) nothing) z

  shown_none : is_shown (read_of s) ≡ false → shown s ≡ nothing
  unfolding shown
  shown_none z = ap (λ (t : Bool). cond t (whole_entries s) nothing) z

  -- SHOWN: by how the log was read
  pub accepted_shown : {gone : ℕ} → read_of s ≡ Ok gone → shown s ≡ entries_of s
  accepted_shown e = shown_whole (ap is_shown e) ∙ accepted_whole s e

  pub cut_shown : {section : ℕ} → read_of s ≡ Err (CutShort section) → shown s ≡ whole_entries s
  cut_shown e = shown_whole (ap is_shown e)

  pub left_over_not_shown : read_of s ≡ Err LeftOver → shown s ≡ nothing
  left_over_not_shown e = shown_none (ap is_shown e)

  pub unequal_not_shown : read_of s ≡ Err Unequal → shown s ≡ nothing
  unequal_not_shown e = shown_none (ap is_shown e)

  pub wide_domain_not_shown : read_of s ≡ Err WideDomain → shown s ≡ nothing
  wide_domain_not_shown e = shown_none (ap is_shown e)

  pub too_long_not_shown : read_of s ≡ Err TooLong → shown s ≡ nothing
  too_long_not_shown e = shown_none (ap is_shown e)

  -- by the answer's number
  module _ {n : ℕ} (is : n ≡ number_of (read_of s)) where
    pub shown_accepted : n ≡ 0 → true ≡ is_shown (read_of s)
    shown_accepted z = sym (simp (eq-eqb (number_of (read_of s)) 0 (sym is ∙ z)))

    pub shown_by_thirteen : (n ≡ 0 → ⊥) → eqb n 13 ≡ is_shown (read_of s)
    shown_by_thirteen o = rw is (sym (simp (ne_eqb (number_of (read_of s)) 0 (λ z. o (is ∙ z)))))

  -- how many there are of each section
  pub count_shown : (n : ℕ) → n < 4 → is_shown (read_of s) ≡ true → whole_count s n ≡ count_in (shown s) n
  count_shown n h z = simp (lt-ltb n 4 h) (rw (shown_whole z))

  count_nothing : (n : ℕ) → count_in nothing n ≡ 0
  count_nothing zero = refl
  count_nothing (suc zero) = refl
  count_nothing (suc (suc zero)) = refl
  count_nothing (suc (suc (suc n))) = refl

  pub count_none : (n : ℕ) → is_shown (read_of s) ≡ false → 0 ≡ count_in (shown s) n
  count_none n z = rw (shown_none z) (sym (count_nothing n))

  either : {P : Type 0} → (is_shown (read_of s) ≡ true → P) → (is_shown (read_of s) ≡ false → P) → P
  either {P} are not-any = go (is_shown (read_of s)) refl
    where
      go : (t : Bool) → is_shown (read_of s) ≡ t → P
      go true e = are e
      go false e = not-any e

  -- the entry that stands whole is the one that is shown
  pub entry_shown : (n i : ℕ) → n < 4 → i < count_in (shown s) n → whole_entry s n i ≡ Some (entry_given (shown s) n i)
  entry_shown n i h k =
      either
      (λ z.
      let within : i < whole_count s n = omega (arith, count_shown n h z) in
      simp (lt-ltb i (whole_count s n) within) (rw (shown_whole z)))
      (λ z. absurd (omega (arith, count_none n z)))

  -- a log has no more entries than bytes behind its first count
  pub few_shown : count_in (shown s) 0 + count_in (shown s) 1 + count_in (shown s) 3 ≤ length s - 4
  few_shown =
      either (λ z. rw (shown_whole z) (few_whole s)) (λ z. omega (arith, count_none 0 z, count_none 1 z, count_none 3 z))

-- two entries of one kind that are the same have the same words
pub same_edition : {x : Option Entry} {a b : ℕ} → x ≡ Some (Entry.Edition a) → x ≡ Some (Entry.Edition b) → a ≡ b
same_edition p q = cc

pub same_syndrome : {x : Option Entry} {a b : Esr} → x ≡ Some (Entry.Syndrome a) → x ≡ Some (Entry.Syndrome b) → a ≡ b
same_syndrome p q = cc

pub same_address : {x : Option Entry} {a b : Far} {f g : Hpfar} → x ≡ Some (Entry.Address a f) → x ≡ Some (Entry.Address b g) → (a ≡ b) × (f ≡ g)
same_address p q = (cc, cc)
