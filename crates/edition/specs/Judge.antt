-- The refusals of a word or a record (01, 'Numbers a call may answer'), and the judgement of an edition on a mask.
use Rattle.std.specs.Prelude.{ℕ, not, [], ◌∷◌, eqb, Result, Ok, Err}
use Rattle.std.specs.Int.Count.{ones}
use Rattle.bits.specs.Field.{bit_of}
use Rattle.bits.specs.Decide.{needs, decide}
use Rattle.edition.specs.declared.Refusal.{Refusal}
use Rattle.edition.specs.declared.Refusal.TheVariants.{UnknownEdition, UpperHalf, UnknownClass, ShortInstruction, NoEdition}
use Rattle.edition.specs.declared.Refusal.TheVariants.{OtherEditions}

-- the number of a refusal
abbrev pub refusal_number : Refusal → ℕ
refusal_number UnknownEdition = 1
refusal_number UpperHalf = 2
refusal_number UnknownClass = 3
refusal_number ShortInstruction = 4
refusal_number NoEdition = 5
refusal_number (OtherEditions mask count) = 6

-- the mask that a refusal carries, and its number of ones: both 0 in all but refusal 6
abbrev pub refusal_mask : Refusal → ℕ
refusal_mask UnknownEdition = 0
refusal_mask UpperHalf = 0
refusal_mask UnknownClass = 0
refusal_mask ShortInstruction = 0
refusal_mask NoEdition = 0
refusal_mask (OtherEditions mask count) = mask

abbrev pub refusal_count : Refusal → ℕ
refusal_count UnknownEdition = 0
refusal_count UpperHalf = 0
refusal_count UnknownClass = 0
refusal_count ShortInstruction = 0
refusal_count NoEdition = 0
refusal_count (OtherEditions mask count) = count

-- 5 where the mask is empty, then 6 with the mask and its number of ones where it doesn't have the edition
unfoldable pub judge_of : ℕ → ℕ → Result Unit Refusal
judge_of edition mask =
    decide (needs (not (eqb mask 0)) (Err NoEdition) ∷ needs (bit_of mask edition) (Err (OtherEditions mask (ones mask))) ∷ []) (Ok tt)
