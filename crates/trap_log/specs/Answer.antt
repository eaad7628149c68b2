-- Requests C-14 and C-21: what reading a log answers, for every slice of bytes, with the number, the section and the number gone through of
-- each answer.
use Rattle.std.specs.Prelude.{ℕ, ◌≡◌, cond, Result, Ok, Err, List, [], ◌∷◌, leb, eqb, length}
use Rattle.bits.specs.Decide.{Test, needs, decide}
use Rattle.log_section.specs.Section.{rest_after, count_after, whole_after}
use Rattle.log_section.specs.Log.{domains_fit, injections_of, gone_through}
use Rattle.trap_log.specs.declared.answer.LogRefusal.{LogRefusal}
use Rattle.trap_log.specs.declared.answer.LogRefusal.TheVariants.{TooLong, CutShort, LeftOver, Unequal, WideDomain}

abbrev pub number_of : Result ℕ LogRefusal → ℕ
number_of (Ok gone) = 0
number_of (Err TooLong) = 16
number_of (Err (CutShort section)) = 13
number_of (Err LeftOver) = 14
number_of (Err Unequal) = 15
number_of (Err WideDomain) = 20

-- the section of refusal 13, and 0 in every other answer
abbrev pub section_in : Result ℕ LogRefusal → ℕ
section_in (Ok gone) = 0
section_in (Err TooLong) = 0
section_in (Err (CutShort section)) = section
section_in (Err LeftOver) = 0
section_in (Err Unequal) = 0
section_in (Err WideDomain) = 0

-- how many counts and entries were gone through, and 0 on a refusal
abbrev pub gone_in : Result ℕ LogRefusal → ℕ
gone_in (Ok gone) = gone
gone_in (Err refusal) = 0

-- THE TESTS in their order, each with what comes where it fails: at most 65,536 bytes; each section whole, the smaller number first;
-- nothing left over after the last; the syndrome and address counts agree; each injection's domain is at most 15
module _ {A : Type 0} (too_long : A) (cut_short : ℕ → A) (left_over unequal wide_domain : A) where
  abbrev pub tests_of : List ℕ → List (Test A)
  tests_of s =
      needs (leb (length s) 65536) too_long
      ∷ needs (whole_after s 0) (cut_short 1)
      ∷ needs (whole_after s 1) (cut_short 2)
      ∷ needs (whole_after s 2) (cut_short 3)
      ∷ needs (whole_after s 3) (cut_short 4)
      ∷ needs (eqb (length (rest_after s 4)) 0) left_over
      ∷ needs (eqb (count_after s 1) (count_after s 2)) unequal
      ∷ needs (domains_fit (injections_of s)) wide_domain
      ∷ []

-- each with its answer, with its number, and with its section
abbrev pub read_tests : List ℕ → List (Test (Result ℕ LogRefusal))
read_tests s = tests_of (Err TooLong) (λ section. Err (CutShort section)) (Err LeftOver) (Err Unequal) (Err WideDomain) s

abbrev pub read_numbers : List ℕ → List (Test ℕ)
read_numbers s = tests_of 16 (λ section. 13) 14 15 20 s

abbrev pub read_sections : List ℕ → List (Test ℕ)
read_sections s = tests_of 0 (λ section. section) 0 0 0 s

-- the first test that fails gives the answer
unfoldable pub read_of : List ℕ → Result ℕ LogRefusal
read_of s = decide (read_tests s) (Ok (gone_through s))

-- THE PROMISE of reading: the answer; its number and its section, by the first test that fails; and the number gone through, 0 on a refusal
pub record Reading (s : List ℕ) (a : Result ℕ LogRefusal) : Type 0 where
  pub answer : a ≡ read_of s
  pub number : number_of a ≡ decide (read_numbers s) 0
  pub section : section_in a ≡ decide (read_sections s) 0
  pub gone : gone_in a ≡ cond (eqb (number_of a) 0) (gone_through s) 0
