-- What reading answers, exactly: each number and each section, by the first test that fails, and what goes with them.
-- Assumes nothing.
use mathlib.Core.Logic.{◌⊎◌, inl, inr, ◌↔◌}
use mathlib.Core.Path.{◌≡◌, refl, sym, ap, subst, ◌∙◌}
use mathlib.Core.Bool.{true, cond}
use mathlib.Core.List.{List, [], ◌∷◌}
use Prim.Native.Nat.{ℕ, zero, suc, ◌≤◌}
use native.Mathlib.Omega.{arith}
use lib.Dec.{leb, eqb, lit≤}
use lib.ListN.{length}
use Rattle.std.specs.Prelude.{Result, Ok, Err}
use Rattle.bits.specs.Decide.{Test, needs, decide, FirstFails, FailsWith}
use Rattle.bits.proofs.Deciding.{OneOf, decide_relabel, decided_exactly, decided_with_exactly, answer_is}
use Rattle.log_section.specs.Section.{whole_after}
use Rattle.log_section.specs.Log.{gone_through}
use Rattle.trap_log.specs.Answer.{number_of, section_in, gone_in, tests_of, read_tests, read_numbers, read_sections, read_of, Reading}
use Rattle.trap_log.specs.declared.answer.LogRefusal.{LogRefusal}
use Rattle.trap_log.specs.declared.answer.LogRefusal.TheVariants.{TooLong, CutShort, LeftOver, Unequal, WideDomain}

-- what holds of each refusal holds of what every test gives
pub each_refusal : (P : Result ℕ LogRefusal → Type 0) (s : List ℕ)
    → P (Err TooLong) → ((n : ℕ) → 1 ≤ n → n ≤ 4 → P (Err (CutShort n))) → P (Err LeftOver) → P (Err Unequal) → P (Err WideDomain)
    → OneOf P (read_tests s)
each_refusal P s long cut left unequal wide = (
  long,
  (
    cut 1 (lit≤ tt) (lit≤ tt),
    (
      cut 2 (lit≤ tt) (lit≤ tt),
      (cut 3 (lit≤ tt) (lit≤ tt), (cut 4 (lit≤ tt) (lit≤ tt), (left, (unequal, (wide, tt))))),
    ),
  ),
)

-- ---- the promise, by its equation alone

pub read_number : (s : List ℕ) → number_of (read_of s) ≡ decide (read_numbers s) 0
unfolding read_of
read_number s = decide_relabel number_of (read_tests s) (Ok (gone_through s))

pub read_section : (s : List ℕ) → section_in (read_of s) ≡ decide (read_sections s) 0
unfolding read_of
read_section s = decide_relabel section_in (read_tests s) (Ok (gone_through s))

-- what each answer says of the number gone through
abbrev pub Gone : List ℕ → Result ℕ LogRefusal → Type 0
Gone s a = gone_in a ≡ cond (eqb (number_of a) 0) (gone_through s) 0

pub read_gone : (s : List ℕ) → Gone s (read_of s)
unfolding read_of
read_gone s =
    answer_is (Gone s) (read_tests s) (Ok (gone_through s)) (each_refusal (Gone s) s refl (λ n p q. refl) refl refl refl) refl

pub promised : (s : List ℕ) {a : Result ℕ LogRefusal} → a ≡ read_of s → Reading s a
promised s e =
    subst (Reading s) (sym e)
    record { answer = refl; number = read_number s; section = read_section s; gone = read_gone s }

-- ---- EACH REFUSAL EXACTLY

-- a number comes exactly when the first test that fails has it (13 is that of four), and 0 exactly when none fails
pub read_refused_exactly : (s : List ℕ) (k : ℕ) → (number_of (read_of s) ≡ k) ↔ FailsWith k (read_numbers s)
read_refused_exactly s k =
    let law = decided_with_exactly (read_numbers s) k in
    (λ e. law.0 (sym (read_number s) ∙ e), λ f. read_number s ∙ law.1 f)

-- a label for each answer, so that no two tests have one: a section's is its number
abbrev label_of : Result ℕ LogRefusal → ℕ
label_of (Ok gone) = 0
label_of (Err TooLong) = 5
label_of (Err (CutShort section)) = section
label_of (Err LeftOver) = 6
label_of (Err Unequal) = 7
label_of (Err WideDomain) = 8

abbrev labels : List ℕ → List (Test ℕ)
labels s = tests_of 5 (λ section. section) 6 7 8 s

read_label : (s : List ℕ) → label_of (read_of s) ≡ decide (labels s) 0
unfolding read_of
read_label s = decide_relabel label_of (read_tests s) (Ok (gone_through s))

first_at : (s : List ℕ) (k : ℕ) → (label_of (read_of s) ≡ k) ↔ FirstFails k (labels s)
first_at s k =
    let law = decided_exactly (labels s) tt k in
    (λ e. law.0 (sym (read_label s) ∙ e), λ f. read_label s ∙ law.1 f)

cut_at : (a : Result ℕ LogRefusal) (n : ℕ) → 1 ≤ n → n ≤ 4 → label_of a ≡ n → a ≡ Err (CutShort n)
cut_at (Ok gone) n h k e = absurd (omega arith)
cut_at (Err TooLong) n h k e = absurd (omega arith)
cut_at (Err (CutShort section)) n h k e = ap (λ (k : ℕ). Err (CutShort k)) e
cut_at (Err LeftOver) n h k e = absurd (omega arith)
cut_at (Err Unequal) n h k e = absurd (omega arith)
cut_at (Err WideDomain) n h k e = absurd (omega arith)

cut_first : (s : List ℕ) (n : ℕ) → 1 ≤ n → n ≤ 4 → (read_of s ≡ Err (CutShort n)) ↔ FirstFails n (labels s)
cut_first s n h k = (λ e. (first_at s n).0 (ap label_of e), λ f. cut_at (read_of s) n h k ((first_at s n).1 f))

-- the sections in their order, each with its number
abbrev pub whole_tests : List ℕ → List (Test ℕ)
whole_tests s = needs (whole_after s 0) 1 ∷ needs (whole_after s 1) 2 ∷ needs (whole_after s 2) 3 ∷ needs (whole_after s 3) 4 ∷ []

-- 13 comes with a section, 1 to 4, exactly when the log is not too long and this section is the first that is not whole
pub cut_short_exactly : (s : List ℕ) (n : ℕ) → 1 ≤ n → n ≤ 4
    → (read_of s ≡ Err (CutShort n)) ↔ ((leb (length s) 65536 ≡ true) × FirstFails n (whole_tests s))
cut_short_exactly s zero h k = absurd (omega arith)
cut_short_exactly s (suc zero) h k = cut_first s 1 h k
cut_short_exactly s (suc (suc zero)) h k = cut_first s 2 h k
cut_short_exactly s (suc (suc (suc zero))) h k = cut_first s 3 h k
cut_short_exactly s (suc (suc (suc (suc zero)))) h k = cut_first s 4 h k
cut_short_exactly s (suc (suc (suc (suc (suc n))))) h k = absurd (omega arith)

-- an accepted log passes every test
pub all_passed : (s : List ℕ) {gone : ℕ} → read_of s ≡ Ok gone → FirstFails 0 (labels s)
all_passed s e = (first_at s 0).0 (ap label_of e)

-- ---- what goes with a number

-- reading answers 0, 13 to 16 or 20
pub read_numbers_lem : (a : Result ℕ LogRefusal) → (number_of a ≡ 0) ⊎ (((13 ≤ number_of a) × (number_of a ≤ 16)) ⊎ (number_of a ≡ 20))
read_numbers_lem (Ok gone) = inl refl
read_numbers_lem (Err TooLong) = inr (inl (lit≤ tt, lit≤ tt))
read_numbers_lem (Err (CutShort section)) = inr (inl (lit≤ tt, lit≤ tt))
read_numbers_lem (Err LeftOver) = inr (inl (lit≤ tt, lit≤ tt))
read_numbers_lem (Err Unequal) = inr (inl (lit≤ tt, lit≤ tt))
read_numbers_lem (Err WideDomain) = inr (inr refl)

-- every answer but 13 has section 0, and every refusal has gone through nothing
pub only_thirteen_names : (a : Result ℕ LogRefusal) → (number_of a ≡ 13 → ⊥) → section_in a ≡ 0
only_thirteen_names (Ok gone) n = refl
only_thirteen_names (Err TooLong) n = refl
only_thirteen_names (Err (CutShort section)) n = absurd (n refl)
only_thirteen_names (Err LeftOver) n = refl
only_thirteen_names (Err Unequal) n = refl
only_thirteen_names (Err WideDomain) n = refl

pub refusals_went_nowhere : (a : Result ℕ LogRefusal) → (number_of a ≡ 0 → ⊥) → gone_in a ≡ 0
refusals_went_nowhere (Ok gone) n = absurd (n refl)
refusals_went_nowhere (Err TooLong) n = refl
refusals_went_nowhere (Err (CutShort section)) n = refl
refusals_went_nowhere (Err LeftOver) n = refl
refusals_went_nowhere (Err Unequal) n = refl
refusals_went_nowhere (Err WideDomain) n = refl

-- 13 comes with a section of 1 to 4
abbrev pub Named : Result ℕ LogRefusal → Type 0
Named a = number_of a ≡ 13 → (1 ≤ section_in a) × (section_in a ≤ 4)

pub section_named : (s : List ℕ) → Named (read_of s)
unfolding read_of
section_named s =
    answer_is Named (read_tests s) (Ok (gone_through s))
    (each_refusal Named s (λ z. absurd (omega arith)) (λ n p q z. (p, q)) (λ z. absurd (omega arith)) (λ z. absurd (omega arith))
    (λ z. absurd (omega arith)))
    (λ z. absurd (omega arith))
