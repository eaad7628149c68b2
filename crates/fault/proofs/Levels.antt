-- Which faults can be written, in plain words: a level of 1 to 3 in the long format and of 1 or 2 in the short, and no alignment fault in a
-- prefetch abort.
use Rattle.std.specs.Prelude.{Option, Some, None, option_map}
use mathlib.Core.Path.{◌≡◌, refl, ap, ◌∙◌}
use mathlib.Core.Bool.{Bool, true, false, cond, not, ◌&&◌}
use Prim.Native.Nat.{ℕ, zero, suc, ◌+◌, ◌≤◌, ◌<◌}
use native.Mathlib.Omega.{arith}
use lib.Dec.{leb}
use borrow.Author.Tests.{ne_eqb, le-leb, lt-leb}
use Rattle.fault.specs.declared.Fault.{Fault}
use Rattle.fault.specs.declared.Fault.TheVariants.{External, Translation, AccessFlag, Permission, Alignment}
use Rattle.fault.specs.Fault.{by_level, fault_row, is_long, column, status_word, status_of, is_alignment, ifsr_word, write_bit}
use Rattle.fault.specs.Fault.{domain_in, dfsr_of, dfsr_word, is_code}

-- the level is one that the format has
abbrev pub has_level : Bool → ℕ → Bool
has_level long l = leb 1 l && leb l (cond long 3 2)

-- a format has a fault: one that has levels where it has the fault's level
abbrev pub has_code : Bool → Fault → Bool
has_code long External = true
has_code long (Translation l) = has_level long l
has_code long (AccessFlag l) = has_level long l
has_code long (Permission l) = has_level long l
has_code long Alignment = true

top : (b : Bool) → cond b 3 2 < 4
top true = omega arith
top false = omega arith

above : (x y : ℕ) (z : Option ℕ) (b : Bool) (l : ℕ) → 4 ≤ l → is_code (by_level l x y z) ≡ has_level b l
unfolding by_level
above x y z b l h =
    let k = top b in
    rw (
      ne_eqb l 1 (λ e. omega arith),
      ne_eqb l 2 (λ e. omega arith),
      ne_eqb l 3 (λ e. omega arith),
      le-leb 1 l (omega arith),
      lt-leb l
          (cond b 3 2) (omega arith),
    )

-- a row of the table, by whether it has a level 3
levels : (x y : ℕ) (z : Option ℕ) (l : ℕ) → is_code (by_level l x y z) ≡ has_level (is_code z) l
unfolding by_level
levels x y (Some z) zero = refl
levels x y (Some z) (suc zero) = refl
levels x y (Some z) (suc (suc zero)) = refl
levels x y (Some z) (suc (suc (suc zero))) = refl
levels x y (Some z) (suc (suc (suc (suc l)))) = above x y (Some z) true (suc (suc (suc (suc l)))) (omega arith)
levels x y None zero = refl
levels x y None (suc zero) = refl
levels x y None (suc (suc zero)) = refl
levels x y None (suc (suc (suc zero))) = refl
levels x y None (suc (suc (suc (suc l)))) = above x y None false (suc (suc (suc (suc l)))) (omega arith)

coded : (f : Fault) (long : Bool) → is_code (column (fault_row f) long) ≡ has_code long f
coded External true = refl
coded External false = refl
coded (Translation l) true = levels _ _ _ l
coded (Translation l) false = levels _ _ _ l
coded (AccessFlag l) true = levels _ _ _ l
coded (AccessFlag l) false = levels _ _ _ l
coded (Permission l) true = levels _ _ _ l
coded (Permission l) false = levels _ _ _ l
coded Alignment true = refl
coded Alignment false = refl

still : (f : ℕ → ℕ) (e : Option ℕ) → is_code (option_map f e) ≡ is_code e
still f (Some c) = refl
still f None = refl

status_written : (f : Fault) (t : ℕ) → is_code (status_of (fault_row f) t) ≡ has_code (is_long t) f
unfolding status_of
status_written f t = still (λ c. status_word c (is_long t)) (column (fault_row f) (is_long t)) ∙ coded f (is_long t)

-- a fault for data only is not written
but : (b : Bool) (e : Option ℕ) → is_code (cond b None e) ≡ (not b && is_code e)
but true e = refl
but false e = refl

pub fetch_writable : (f : Fault) (t : ℕ) → is_code (ifsr_word f t) ≡ (not (is_alignment f) && has_code (is_long t) f)
fetch_writable f t =
    but (is_alignment f) (status_of (fault_row f) t) ∙ ap (λ (b : Bool). not (is_alignment f) && b) (status_written f t)

-- whatever the domain: 11 doesn't look at it
pub access_writable : (f : Fault) (write : Bool) (domain t : ℕ) → is_code (dfsr_word f write domain t) ≡ has_code (is_long t) f
unfolding dfsr_of
access_writable f write domain t =
    still (λ w. write_bit write + (domain_in (fault_row f) (is_long t) domain + w)) (status_of (fault_row f) t) ∙ status_written f t
