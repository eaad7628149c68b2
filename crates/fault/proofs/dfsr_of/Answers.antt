-- `fault::dfsr_of` meets its contract: the domain stands between FS bit 4 and FS 3:0, and the word so far ends below bit 11, so that `|`
-- adds each.
use Rattle.std.specs.Prelude.{Option, Some, None, option_map}
use mathlib.Core.Path.{◌≡◌, sym, ap, ap₂, ◌∙◌}
use mathlib.Core.Bool.{Bool, true, false, cond, not, ◌&&◌}
use Prim.Native.Nat.{ℕ, ◌+◌, ◌/◌, ◌%◌, ◌*◌, ◌^◌, ◌<◌}
use native.Mathlib.Nat.{zero-add}
use native.Mathlib.Omega.{arith}
use lib.Bits.{bit_or, or_zero_r, or_shifted, or_shifted_r, or_block}
use Rattle.bits.specs.Field.{field_of}
use Rattle.bits.proofs.Arms.{told, absurd_answer}
use Rattle.fault.specs.declared.Row.{Row}
use Rattle.fault.specs.Fault.{is_long, column, status_word, status_of, write_bit, domain_in, dfsr_of}
use Rattle.fault.proofs.dfsr_of.Goals as goal

-- d between a, at bit 10, and c, below bit 4
between : (a c d : ℕ) → c < 2 ^ 4 → d < 2 ^ 6 → bit_or (a * 2 ^ 10 + c) (d * 2 ^ 4) ≡ d * 2 ^ 4 + (a * 2 ^ 10 + c)
between a c d h k =
    let e : bit_or (a * 2 ^ 6 * 2 ^ 4 + c) (d * 2 ^ 4 + 0) ≡ bit_or (a * 2 ^ 6) d * 2 ^ 4
    + bit_or c 0 = or_block 4 (a * 2 ^ 6) d c 0 h (omega arith) in
    let x : a * 2 ^ 10 + c ≡ a * 2 ^ 6 * 2 ^ 4 + c = omega arith in
    let y : d * 2 ^ 4 ≡ d * 2 ^ 4 + 0 = omega arith in
    let z : (a * 2 ^ 6 + d) * 2 ^ 4 + c ≡ d * 2 ^ 4 + (a * 2 ^ 10 + c) = omega arith in
    ap₂ bit_or x y ∙ e ∙ ap₂ (λ (m n : ℕ). m * 2 ^ 4 + n) (or_shifted a 6 d k) (or_zero_r c) ∙ z

bare : (w : ℕ) → bit_or w 0 ≡ 0 + w
bare w = or_zero_r w ∙ sym (zero-add w)

-- the domain is added to the status
added : (has long : Bool) (e : Option ℕ) (d : ℕ) {w : ℕ} → option_map (λ c. status_word c long) e ≡ Some w
    → bit_or w (cond (has && not long) (field_of d 3 0 * 2 ^ 4) 0) ≡ cond (has && not long) (field_of d 3 0 * 2 ^ 4) 0 + w
added true true e d {w} p = bare w
added false true e d {w} p = bare w
added false false e d {w} p = bare w
added true false (Some c) d {w} p =
    let q : c / 2 ^ 4 % 2 * 2 ^ 10 + c / 2 ^ 0 % 2 ^ 4 ≡ w = cc in
    ap (λ (n : ℕ). bit_or n (d / 2 ^ 0 % 2 ^ 4 * 2 ^ 4)) (sym q)
    ∙ between (c / 2 ^ 4 % 2) (c / 2 ^ 0 % 2 ^ 4) (d / 2 ^ 0 % 2 ^ 4) (omega arith) (omega arith)
    ∙ ap (λ (n : ℕ). d / 2 ^ 0 % 2 ^ 4 * 2 ^ 4 + n) q
added true false None d p = absurd_answer (cc)

below : (has long : Bool) (e : Option ℕ) (d : ℕ) {w : ℕ} → option_map (λ c. status_word c long) e ≡ Some w
    → cond (has && not long) (field_of d 3 0 * 2 ^ 4) 0 + w < 2 ^ 11
below true true (Some c) d {w} p = let q : 2 ^ 9 + c / 2 ^ 0 % 2 ^ 6 ≡ w = cc in omega arith
below false true (Some c) d {w} p = let q : 2 ^ 9 + c / 2 ^ 0 % 2 ^ 6 ≡ w = cc in omega arith
below true false (Some c) d {w} p = let q : c / 2 ^ 4 % 2 * 2 ^ 10 + c / 2 ^ 0 % 2 ^ 4 ≡ w = cc in omega arith
below false false (Some c) d {w} p = let q : c / 2 ^ 4 % 2 * 2 ^ 10 + c / 2 ^ 0 % 2 ^ 4 ≡ w = cc in omega arith
below has long None d p = absurd_answer (cc)

module _ (row : Row) (d t : ℕ) where
  -- the domain that was found, with the status w
  joined : {w n : ℕ} {long : Bool} → status_of row t ≡ Some w → long ≡ is_long t → n ≡ domain_in row long d
      → bit_or w n ≡ domain_in row (is_long t) d + w
  unfolding status_of
  joined {w} p l e =
      ap (bit_or w) (e ∙ ap (λ (b : Bool). domain_in row b d) l) ∙ added row.domain (is_long t) (column row (is_long t)) d p

  below-11 : {w : ℕ} → status_of row t ≡ Some w → domain_in row (is_long t) d + w < 2 ^ 11
  unfolding status_of
  below-11 p = below row.domain (is_long t) (column row (is_long t)) d p

  -- the status x that was found, with the domain, marked by whether the access was a write
  marked : {write b : Bool} {e x : Option ℕ} → write ≡ b → e ≡ status_of row t → e ≡ x
      → option_map (λ w. write_bit b + (domain_in row (is_long t) d + w)) x ≡ dfsr_of row write d t
  unfolding dfsr_of
  marked {b = b} p q f =
      ap (option_map (λ w. write_bit b + (domain_in row (is_long t) d + w))) (sym f ∙ q)
      ∙ told (λ (b : Bool). option_map (λ w. write_bit b + (domain_in row (is_long t) d + w)) (status_of row t)) p

pub returns-then-write : goal.returns-then-write
returns-then-write c =
    let args = c.args in
    let found = c.status_of.ensures in
    let code = c.in_ok-status.was in
    let status = sym found ∙ code in
    ap Some
    (ap (λ (n : ℕ). bit_or n 0x800)
    (joined args.row args.domain args.ttbcr status c.is_long.ensures c.domain_in.ensures)
    ∙ or_shifted_r 1 11 _ (below-11 args.row args.domain args.ttbcr status))
    ∙ marked args.row args.domain args.ttbcr c.if-write.true found code

pub returns-else-write : goal.returns-else-write
returns-else-write c =
    let args = c.args in
    let found = c.status_of.ensures in
    let code = c.in_ok-status.was in
    ap Some
    (joined args.row args.domain args.ttbcr (sym found ∙ code) c.is_long.ensures
    c.domain_in.ensures
    ∙ sym (zero-add _))
    ∙ marked args.row args.domain args.ttbcr c.if-write.false found code
