-- Describing an instruction (02, C-18): 9 for an unsound state, then 19 in T32 state, then 19 for a word that is none of these forms or
-- whose decoding is UNPREDICTABLE.
use Rattle.std.specs.Prelude.{ℕ, ◌≡◌, not, List, [], ◌∷◌, Result, Ok, Err}
use Rattle.bits.specs.Field.{field_of}
use Rattle.bits.specs.Decide.{Test, needs, decide, relabel}
use Rattle.promise.specs.Promise.{Answers}
use Rattle.status.specs.Sound.{sound}
use Rattle.status.specs.Entry.{t32}
use Rattle.exception.specs.declared.state.Guest.{Guest}
use Rattle.a32_fields.specs.Split.{fields_at}
use Rattle.a32_fields.specs.declared.kinds.Fields.{Fields}
use Rattle.a32_rule.specs.Answer.{is_form}
use Rattle.a32_access.specs.Transferred.{registers_of, padded}
use Rattle.a32_access.specs.Access.{access_in}
use Rattle.a32_access.specs.declared.access.Access.{Access}
use Rattle.a32.specs.declared.instruction.InstructionRefusal.{InstructionRefusal}
use Rattle.a32.specs.declared.instruction.InstructionRefusal.TheVariants.{UnsoundStatus, T32State, NoForm}
use Rattle.a32.specs.declared.instruction.Described.{Described}

-- what a load or store does in a state, whose mode is M, bits 4:0 of the status word
abbrev pub access_of : Guest → Fields → Access
access_of s f = access_in s.regs s.pc (field_of s.status 4 0) f

abbrev pub answer_number : {A : Type 0} → Result A InstructionRefusal → ℕ
answer_number (Ok a) = 0
answer_number (Err UnsoundStatus) = 9
answer_number (Err T32State) = 19
answer_number (Err NoForm) = 19

-- the tests in their order, each with its answer
abbrev pub describe_tests : Guest → ℕ → List (Test (Result Access InstructionRefusal))
describe_tests s w =
    needs (sound s.marks s.status) (Err UnsoundStatus) ∷ needs (not (t32 s.status)) (Err T32State) ∷ needs (is_form w) (Err NoForm) ∷ []

-- and with its number; 0 comes where none fails
abbrev pub describe_numbers : Guest → ℕ → List (Test ℕ)
describe_numbers s w = relabel answer_number (describe_tests s w)

-- where none fails, the word's own fields are legal and make it (a32_rule, `decode_exactly`)
unfoldable pub described_answer : Guest → ℕ → Result Access InstructionRefusal
described_answer s w = decide (describe_tests s w) (Ok (access_of s (fields_at w)))

-- the registers in transfer order, 0 after the last; a refusal has none
abbrev pub registers_in : Result Access InstructionRefusal → List ℕ
registers_in (Ok a) = padded 16 (registers_of a.fields)
registers_in (Err refusal) = padded 16 []

-- THE PROMISE: the answer with its number, and the registers
pub record Describing (s : Guest) (w : ℕ) (r : Described) : Type 0 where
  pub answered : Answers answer_number (described_answer s w) (describe_numbers s w) r.answer
  pub registers : r.registers ≡ registers_in r.answer
