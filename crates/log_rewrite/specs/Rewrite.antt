-- Request C-14, "Any log so accepted, written again, gives the same bytes", beside running code: what reading a log and writing its entries
-- into a buffer answers, and the buffer after it.
use Rattle.std.specs.Prelude.{ℕ, ◌≡◌, cond, Result, Ok, Err, List, [], ◌∷◌, ◌++◌, leb, eqb, length, drop}
use Rattle.bits.specs.Decide.{Test, needs, decide, relabel}
use Rattle.trap_log.specs.Answer.{section_in, read_tests, read_numbers, read_sections, read_of}
use Rattle.trap_log.specs.Answer.{number_of as number_read}
use Rattle.log_writer.specs.Write.{number_of as number_written}
use Rattle.trap_log.specs.declared.answer.LogRefusal.{LogRefusal}
use Rattle.log_writer.specs.declared.answer.WriteRefusal.{WriteRefusal}
use Rattle.log_writer.specs.declared.answer.WriteRefusal.TheVariants.{NoRoom}
use Rattle.log_rewrite.specs.declared.RewriteRefusal.{RewriteRefusal}
use Rattle.log_rewrite.specs.declared.RewriteRefusal.TheVariants.{Unread, Unwritten}

-- reading answers 0
abbrev pub Taken : List ℕ → Type 0
Taken s = number_read (read_of s) ≡ 0

abbrev pub number_of : Result ℕ RewriteRefusal → ℕ
number_of (Ok n) = 0
number_of (Err (Unread refusal)) = number_read (Err refusal)
number_of (Err (Unwritten refusal)) = number_written (Err refusal)

-- the section of refusal 13, and 0 in every other answer
abbrev pub section_of : Result ℕ RewriteRefusal → ℕ
section_of (Ok n) = 0
section_of (Err (Unread refusal)) = section_in (Err refusal)
section_of (Err (Unwritten refusal)) = 0

-- the length of the log that was written, and 0 on a refusal
abbrev pub length_of : Result ℕ RewriteRefusal → ℕ
length_of (Ok n) = n
length_of (Err refusal) = 0

-- what the reader answers and what the writer answers, with the refusal of each
abbrev pub unread : Result ℕ LogRefusal → Result ℕ RewriteRefusal
unread (Ok gone) = Ok gone
unread (Err refusal) = Err (Unread refusal)

abbrev pub unwritten : Result ℕ WriteRefusal → Result ℕ RewriteRefusal
unwritten (Ok n) = Ok n
unwritten (Err refusal) = Err (Unwritten refusal)

-- THE TESTS in their order: the reader's, and then the room
abbrev pub rewrite_tests : List ℕ → ℕ → List (Test (Result ℕ RewriteRefusal))
rewrite_tests s room = relabel unread (read_tests s) ++ (needs (leb (length s) room) (Err (Unwritten NoRoom)) ∷ [])

abbrev pub rewrite_numbers : List ℕ → ℕ → List (Test ℕ)
rewrite_numbers s room = read_numbers s ++ (needs (leb (length s) room) 17 ∷ [])

-- the first test that fails gives the answer, and else it is the log's own length
unfoldable pub rewritten_of : List ℕ → ℕ → Result ℕ RewriteRefusal
rewritten_of s room = decide (rewrite_tests s room) (Ok (length s))

-- the log's own bytes stand at the front and what lies past them stays; a refusal leaves the whole buffer as it was
abbrev pub buffer_again : Result ℕ RewriteRefusal → List ℕ → List ℕ → List ℕ
buffer_again (Ok n) s before = s ++ drop n before
buffer_again (Err refusal) s before = before

-- THE PROMISE of writing a log again, of the buffer before it and after it: the answer; its number and its section, by the first test that
-- fails; the log's length, 0 on a refusal; and the buffer
pub record Rewriting (s before after : List ℕ) (a : Result ℕ RewriteRefusal) : Type 0 where
  pub answer : a ≡ rewritten_of s (length before)
  pub number : number_of a ≡ decide (rewrite_numbers s (length before)) 0
  pub section : section_of a ≡ decide (read_sections s) 0
  pub written : length_of a ≡ cond (eqb (number_of a) 0) (length s) 0
  pub buffer : after ≡ buffer_again a s before
