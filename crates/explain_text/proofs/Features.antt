-- REFUSAL 6 BY NAME: the editions that fit the features that are named are exactly those of the mask.
-- Assumes nothing.
use mathlib.Core.Path.{◌≡◌, sym, ap, ◌∙◌}
use mathlib.Core.Bool.{Bool, true, false, cond, ◌&&◌, ◌||◌, true≢false}
use mathlib.Core.Logic.{⊎_elim}
use Prim.Native.Nat.{ℕ, zero, suc, ◌≤◌, ◌<◌}
use native.Mathlib.Decide.{dec_le}
use native.Mathlib.Omega.{arith}
use borrow.Author.Tests.{eqb-true}
use lib.Dec.{T, eqb}
use Rattle.bits.proofs.Booleans.{both_left, both_right, is_true, either}
use Rattle.edition.specs.Feature.{ras}
use Rattle.edition.specs.Mask.{mask_below, mask_of}
use Rattle.edition.specs.declared.Refusal.TheVariants.{OtherEditions}
use Rattle.edition.proofs.Masks.{mask_known, mask_when, mask_zero, mask_empty}
use Rattle.form.specs.Form as Form
use Rattle.iss.specs.Rule.{isv_code}
use Rattle.layout.specs.Fields.{record_word}
use Rattle.record.specs.Sort.{sort_of}
use Rattle.record.specs.Split.{record_at}
use Rattle.record.specs.declared.origin.Origin.{Origin}
use Rattle.registers.specs.declared.Esr.{Esr}
use Rattle.record.specs.declared.kinds.Record.{Record}
use Rattle.record.specs.declared.kinds.Sort.{Sort}
use Rattle.refusal_text.specs.Feature.{fits, asked_by}
use Rattle.fault_code.specs.Code.{instruction_code, data_code, set_rule}
use Rattle.rule.specs.Has.{sort_rule, edition_rule}
use Rattle.rule.specs.Has.{lawful, has}
use Rattle.fault_code.proofs.Masks.{no_code, no_instruction_code}
use Rattle.syndrome.specs.Reading.{has_word, read_of}
use Rattle.syndrome.proofs.Refusals.{read_six_exactly}
use Rattle.std.specs.Prelude.{Err}

-- the features that are named fit exactly the mask's editions
abbrev exactly : ℕ → Bool
exactly mask = eqb (mask_below 16 (fits (asked_by false mask))) mask

-- or no edition is in it
abbrev told : ℕ → Bool
told mask = eqb mask 0 || exactly mask

abbrev pub all_below : ℕ → (ℕ → Bool) → Bool
all_below zero test = true
all_below (suc n) test = test n && all_below n test

pub below : (n : ℕ) (test : ℕ → Bool) → T (all_below n test) → (k : ℕ) → k < n → T (test k)
below zero test t k h = absurd (omega arith)
below (suc n) test t k h = go (dec_le n k) (below n test (both_right (test n) (all_below n test) t) k)
  where
    go : Dec (n ≤ k) → (k < n → T (test k)) → T (test k)
    go (yes last) less =
        let same : k ≡ n = omega arith in
        rw same (both_left (test n) (all_below n test) t)
    go (no before) less = less (omega arith)

abbrev ever : (Bool → Bool) → Bool
ever test = test true && test false

at_bool : (test : Bool → Bool) → T (ever test) → (b : Bool) → T (test b)
at_bool test t true = both_left (test true) (test false) t
at_bool test t false = both_right (test true) (test false) t

-- the rules that go by the edition, at each code and each answer that SET and ISV give
abbrev instruction_at : ℕ → Bool → Bool → Bool
instruction_at code none some = told (mask_below 16 (λ e. instruction_code e code && (none || ras e && (eqb code 0x10 && some))))

abbrev data_at : ℕ → Bool → Bool → Bool → Bool
data_at code none some isv =
    told (mask_below 16 (λ e. data_code e code && (none || ras e && (eqb code 0x10 && some)) && isv_code (ras e) isv code))

abbrev error_at : Bool → Bool → Bool
error_at none some = told (mask_below 16 (λ e. none || ras e && some))

instruction_told : T (all_below 64 (λ code. ever (λ none. ever (λ some. instruction_at code none some))))
instruction_told = tt

data_told : T (all_below 64 (λ code. ever (λ none. ever (λ some. ever (λ isv. data_at code none some isv)))))
data_told = tt

error_told : T (ever (λ none. ever (λ some. error_at none some)))
error_told = tt

none_told : (test : ℕ → Bool) → ((e : ℕ) → test e ≡ false) → T (told (mask_below 16 test))
none_told test none = rw (← mask_empty 16 test none) tt

sort_told : (s : Sort) → T (told (mask_below 16 (λ e. sort_rule e s)))
sort_told Sort.Plain = tt
sort_told Sort.Addressed = tt
sort_told (Sort.InstructionAbort r) = go (dec_le 64 r.code)
  where
    go : Dec (64 ≤ r.code) → T (told (mask_below 16 (λ e. sort_rule e (Sort.InstructionAbort r))))
    go (yes h) =
        none_told (λ e. sort_rule e (Sort.InstructionAbort r))
        (λ e. ap (λ (b : Bool). b && set_rule e r.set r.code) (no_instruction_code e r.code h))
    go (no h) =
        at_bool (λ some. instruction_at r.code (eqb r.set 0) some)
        (at_bool (λ none. ever (λ some. instruction_at r.code none some))
        (below 64 (λ code. ever (λ none. ever (λ some. instruction_at code none some))) instruction_told r.code (omega arith))
        (eqb r.set 0)) (eqb r.set 2 || eqb r.set 3)
sort_told (Sort.DataAbort r) = go (dec_le 64 r.code)
  where
    go : Dec (64 ≤ r.code) → T (told (mask_below 16 (λ e. sort_rule e (Sort.DataAbort r))))
    go (yes h) =
        none_told (λ e. sort_rule e (Sort.DataAbort r))
        (λ e. ap (λ (b : Bool). b && set_rule e r.set r.code && isv_code (ras e) r.isv r.code) (no_code e r.code h))
    go (no h) =
        at_bool (λ isv. data_at r.code (eqb r.set 0) (eqb r.set 2 || eqb r.set 3) isv)
        (at_bool (λ some. ever (λ isv. data_at r.code (eqb r.set 0) some isv))
        (at_bool (λ none. ever (λ some. ever (λ isv. data_at r.code none some isv)))
        (below 64 (λ code. ever (λ none. ever (λ some. ever (λ isv. data_at code none some isv)))) data_told r.code (omega arith))
        (eqb r.set 0)) (eqb r.set 2 || eqb r.set 3)) r.isv
sort_told (Sort.SError r) =
    at_bool (λ some. error_at (eqb r.code 0) some)
    (at_bool (λ none. ever (λ some. error_at none some)) error_told (eqb r.code 0)) (eqb r.code 0x11)

module _ (o : Origin) where
  -- the editions of a record, and of a word
  record_told : (r : Record) → T (told (mask_below 16 (λ e. has o e r)))
  unfolding has
  record_told r = rw (← mask_known 16 (lawful o r) (λ e. edition_rule e r)) (go (lawful o r))
    where
      go : (b : Bool) → T (told (cond b (mask_below 16 (λ e. edition_rule e r)) 0))
      go true = sort_told (sort_of r)
      go false = tt

  word_told : (w : ℕ) → T (told (mask_below 16 (λ e. has_word o e w)))
  unfolding Form.has_word
  word_told w = rw (← mask_when 16 (eqb (record_word (record_at w)) w) (λ e. has o e (record_at w))) (go (eqb (record_word (record_at w)) w))
    where
      go : (b : Bool) → T (told (cond b (mask_below 16 (λ e. has o e (record_at w))) 0))
      go true = record_told (record_at w)
      go false = tt

  -- WITH REFUSAL 6 the editions that fit the features that are named are exactly the mask's
  pub named_exactly : (e : ℕ) (esr : Esr) (mask count : ℕ) → read_of o e esr ≡ Err (OtherEditions mask count)
      → mask_of (fits (asked_by false mask)) ≡ mask
  unfolding mask_of
  named_exactly e esr mask count refused =
      let six = (read_six_exactly o e esr mask count).0 refused in
      let some = six.0.2 in
      let is : mask ≡ mask_below 16 (λ x. has_word o x esr.0) = six.1 in
      ⊎_elim
      (λ none. absurd (true≢false
      (sym some.2 ∙ mask_zero 16 (λ x. has_word o x esr.0) (sym is ∙ eqb-true mask 0 none) some.0 some.1)))
      (λ same. eqb-true (mask_below 16 (fits (asked_by false mask))) mask same)
      (either (eqb mask 0) (exactly mask) (is_true (told mask) (rw is (word_told esr.0))))
