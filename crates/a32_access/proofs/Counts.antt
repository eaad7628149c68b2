-- The number of registers is how many there are: for a list, its number of ones.
-- Assumes nothing.
use Rattle.std.proofs.Common.{◌≡◌, ℕ, zero, suc, ◌+◌, ◌/◌, ◌%◌, ◌^◌, ◌<◌, Bool, true, false, cond, eqb, [], ◌∷◌, length, sym, refl, ap, ◌∙◌, ap₂, mod-lt, mod-eq_of_lt, add_comm, arith, lit<, pow_pos}
use native.Mathlib.Nat.{mod-one}
use lib.Count.{ones, ones_cat}
use lib.Pow.{mod-pow-add}
use Rattle.bits.specs.Field.{width_of, bit_of, digit}
use Rattle.a32_fields.specs.Code.{dual}
use Rattle.a32_fields.specs.declared.kinds.Transfer.{Transfer}
use Rattle.a32_fields.specs.declared.kinds.Fields.{Fields}
use Rattle.a32_rule.specs.Legal.{legal}
use Rattle.a32_rule.proofs.Having.{multiple_list}
use Rattle.a32_access.specs.Transferred.{listed_below, registers_of, count_of}
use Rattle.a32_access.proofs.Lists.{length_next}

-- one digit more
digit_more : (n list : ℕ) → ones (list % 2 ^ suc n) ≡ ones (list / 2 ^ n % 2) + ones (list % 2 ^ n)
digit_more n list =
    ap (λ (k : ℕ). ones (list % 2 ^ k)) (one_add n) ∙ ap ones (mod-pow-add list 1 n)
    ∙ ones_cat n (list / 2 ^ n % 2) (list % 2 ^ n) (mod-lt list (pow_pos n))
  where
    one_add : (k : ℕ) → suc k ≡ 1 + k
    one_add k = omega arith

-- a digit is 0 or 1, and counts as itself
digit_ones : (d : ℕ) → d < 2 → ones d ≡ digit (eqb d 1)
unfolding ones
digit_ones zero h = refl
digit_ones (suc zero) h = refl
digit_ones (suc (suc d)) h = absurd (omega arith)

field_bit : (n list : ℕ) → digit (eqb (list / 2 ^ n % 2) 1) ≡ digit (bit_of list n)
field_bit n list = ap (λ (k : ℕ). digit (eqb (list / 2 ^ n % 2 ^ k) 1)) (one n)
  where
    one : (k : ℕ) → 1 ≡ width_of k k
    one k = omega arith

-- the ones of a list's lowest n bits are its registers below n
pub ones_listed : (n list : ℕ) → ones (list % 2 ^ n) ≡ length (listed_below n list)
unfolding ones listed_below
ones_listed zero list = ap ones (mod-one list)
ones_listed (suc n) list =
    digit_more n list
    ∙ ap₂ (λ (a b : ℕ). a + b) (digit_ones (list / 2 ^ n % 2) (mod-lt (list / 2 ^ n) (lit< tt)) ∙ field_bit n list) (ones_listed n list)
    ∙ add_comm (digit (bit_of list n)) (length (listed_below n list)) ∙ sym (length_next n list)

module _ (x : Transfer) (t : ℕ) where
  number_length : (b : Bool) → cond b 2 1 ≡ length (cond b (t ∷ (t + 1) % 2 ^ 32 ∷ []) (t ∷ []))
  number_length true = refl
  number_length false = refl

-- THE NUMBER of registers is the length of their list
pub count_length : (f : Fields) → legal f ≡ true → count_of f ≡ length (registers_of f)
unfolding registers_of
count_length (Fields.Immediate r) h = number_length r.transfer r.rt (dual r.transfer)
count_length (Fields.Register r) h = number_length r.transfer r.rt (dual r.transfer)
count_length (Fields.Literal r) h = number_length r.transfer r.rt (dual r.transfer)
count_length (Fields.Multiple r) h = ap ones (sym (mod-eq_of_lt (multiple_list r h))) ∙ ones_listed 16 r.list
