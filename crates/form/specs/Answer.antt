-- What a call answers (01, 'Numbers a call may answer'): 0 with what it gives, or a refusal with its number, mask and number of ones. No
-- refusal carries a record or a word.
use Rattle.std.specs.Prelude.{ℕ, Result, Ok, Err}
use Rattle.edition.specs.declared.Refusal.{Refusal}
use Rattle.edition.specs.Judge.{refusal_number, refusal_mask, refusal_count}

abbrev pub number_in : {A : Type 0} → Result A Refusal → ℕ
number_in (Ok a) = 0
number_in (Err refusal) = refusal_number refusal

abbrev pub mask_in : {A : Type 0} → Result A Refusal → ℕ
mask_in (Ok a) = 0
mask_in (Err refusal) = refusal_mask refusal

abbrev pub count_in : {A : Type 0} → Result A Refusal → ℕ
count_in (Ok a) = 0
count_in (Err refusal) = refusal_count refusal
