-- Where a DFSR has the domain (02, C-21): laws over every row of the table of faults.
use Rattle.std.specs.Prelude.{Option, Some, None, option_map}
use mathlib.Core.Path.{◌≡◌, refl, sym, ap, ◌∙◌}
use mathlib.Core.Bool.{Bool, true, false, cond, not, ◌&&◌, true≢false}
use mathlib.Core.Logic.{◌⊎◌, inl, inr, ⊎_elim, ◌↔◌}
use Prim.Native.Nat.{ℕ, ◌+◌, ◌*◌, ◌/◌, ◌%◌, ◌^◌, ◌<◌}
use native.Mathlib.Nat.{zero-add}
use native.Mathlib.Omega.{arith}
use borrow.Author.Tests.{eqb-true}
use Rattle.bits.specs.Field.{field_of}
use Rattle.bits.proofs.Arms.{absurd_answer}
use Rattle.fault.specs.declared.Fault.{Fault}
use Rattle.fault.specs.declared.Fault.TheVariants.{External, Translation, AccessFlag, Permission, Alignment}
use Rattle.fault.specs.declared.Row.{Row}
use Rattle.fault.specs.Fault.{fault_row, is_long, column, status_word, status_of, write_bit, domain_in, dfsr_of}
use Rattle.fault.specs.Base.{base_dfsr}

-- THE TWO CASES: a level 2 translation fault and a level 2 access flag fault are the faults whose row has the domain
pub two_faults : (f : Fault) → ((fault_row f).domain ≡ true) ↔ ((f ≡ Translation 2) ⊎ (f ≡ AccessFlag 2))
two_faults f = (only f, ⊎_elim (ap (λ (g : Fault). (fault_row g).domain)) (ap (λ (g : Fault). (fault_row g).domain)))
  where
    only : (f : Fault) → (fault_row f).domain ≡ true → (f ≡ Translation 2) ⊎ (f ≡ AccessFlag 2)
    only External e = absurd (true≢false (sym e))
    only (Translation l) e = inl (ap Translation (eqb-true l 2 e))
    only (AccessFlag l) e = inr (ap AccessFlag (eqb-true l 2 e))
    only (Permission l) e = absurd (true≢false (sym e))
    only Alignment e = absurd (true≢false (sym e))

-- nothing added to the status
bare : (write : Bool) {n : ℕ} (e : Option ℕ) → n ≡ 0 → option_map (λ w. write_bit write + (n + w)) e ≡ option_map (λ w. write_bit write + w) e
bare write (Some w) z =
    ap (λ (n : ℕ). Some (write_bit write + (n + w))) z ∙ ap (λ (n : ℕ). Some (write_bit write + n)) (zero-add w)
bare write None z = refl

-- bits 7:4 of a word of the short format
field_7_4 : (has write : Bool) (e : Option ℕ) (domain : ℕ) {w : ℕ} → domain < 16
    → option_map (λ s. write_bit write + (cond (has && true) (field_of domain 3 0 * 2 ^ 4) 0 + s)) (option_map (λ c. status_word c false) e) ≡ Some w
    → field_of w 7 4 ≡ cond has domain 0
field_7_4 true true (Some c) d {w} h p =
    let q : 2 ^ 11 + (d / 2 ^ 0 % 2 ^ 4 * 2 ^ 4 + (c / 2 ^ 4 % 2 * 2 ^ 10 + c / 2 ^ 0 % 2 ^ 4)) ≡ w = cc in
    omega arith
field_7_4 true false (Some c) d {w} h p =
    let q : 0 + (d / 2 ^ 0 % 2 ^ 4 * 2 ^ 4 + (c / 2 ^ 4 % 2 * 2 ^ 10 + c / 2 ^ 0 % 2 ^ 4)) ≡ w = cc in
    omega arith
field_7_4 false true (Some c) d {w} h p =
    let q : 2 ^ 11 + (0 + (c / 2 ^ 4 % 2 * 2 ^ 10 + c / 2 ^ 0 % 2 ^ 4)) ≡ w = cc in
    omega arith
field_7_4 false false (Some c) d {w} h p =
    let q : 0 + (0 + (c / 2 ^ 4 % 2 * 2 ^ 10 + c / 2 ^ 0 % 2 ^ 4)) ≡ w = cc in
    omega arith
field_7_4 has write None d h p = absurd_answer (cc)

module _ (row : Row) (write : Bool) (ttbcr : ℕ) where
  -- OUTSIDE THE TWO CASES, and in the long format, no domain changes anything: DFSR is what it was before C-21
  pub no_domain : (domain : ℕ) → (row.domain && not (is_long ttbcr)) ≡ false → dfsr_of row write domain ttbcr ≡ base_dfsr row write ttbcr
  unfolding dfsr_of base_dfsr
  no_domain domain e = bare write (status_of row ttbcr) (ap (λ (b : Bool). cond b (field_of domain 3 0 * 2 ^ 4) 0) e)

  -- A DOMAIN OF 0 gives the DFSR that stood before C-21
  pub domain_0 : dfsr_of row write 0 ttbcr ≡ base_dfsr row write ttbcr
  unfolding dfsr_of base_dfsr
  domain_0 = bare write (status_of row ttbcr) (nothing (row.domain && not (is_long ttbcr)))
    where
      nothing : (b : Bool) → cond b (field_of 0 3 0 * 2 ^ 4) 0 ≡ 0
      nothing true = refl
      nothing false = refl

  -- WHAT THE GUEST READS in the short format: bits 7:4 are the domain in the two cases, and else 0
  pub domain_read : (domain : ℕ) {w : ℕ} → is_long ttbcr ≡ false → domain < 16 → dfsr_of row write domain ttbcr ≡ Some w
      → field_of w 7 4 ≡ cond row.domain domain 0
  unfolding dfsr_of status_of
  domain_read domain short h e =
      field_7_4 row.domain write (column row false) domain h
      (ap (λ (long : Bool). option_map (λ s. write_bit write + (domain_in row long domain + s))
      (option_map (λ c. status_word c long) (column row long))) (sym short) ∙ e)
