-- Requests C-14, "A log writer", and C-21: what writing a log answers, for all lists and every room, and the buffer after it.
use Rattle.std.specs.Prelude.{ℕ, ◌+◌, ◌*◌, max, ◌≡◌, Bool, cond, ◌&&◌, Result, Ok, Err, List, [], ◌∷◌, ◌++◌, leb, eqb, length, drop}
use Rattle.bits.specs.Decide.{Test, needs, decide}
use Rattle.log_section.specs.Section.{injection_size}
use Rattle.log_section.specs.Log.{domains_fit, log_of}
use Rattle.log_writer.specs.Lists.{Lists, entries_from}
use Rattle.log_writer.specs.declared.answer.WriteRefusal.{WriteRefusal}
use Rattle.log_writer.specs.declared.answer.WriteRefusal.TheVariants.{TooLong, Unequal, NoRoom, WideDomain}

abbrev pub number_of : Result ℕ WriteRefusal → ℕ
number_of (Ok n) = 0
number_of (Err Unequal) = 15
number_of (Err TooLong) = 16
number_of (Err NoRoom) = 17
number_of (Err WideDomain) = 20

-- the length of the log that was written, and 0 on a refusal
abbrev pub length_in : Result ℕ WriteRefusal → ℕ
length_in (Ok n) = n
length_in (Err refusal) = 0

-- the length by the counts: four counts, and the entries. An address that has only one of its words counts as an address.
abbrev pub length_by : Lists → ℕ
length_by l =
    16 + length l.editions + length l.syndromes * 8 + max (length l.fars) (length l.hpfars) * 16
    + length l.injections * injection_size

-- as many FARs and as many HPFARs as syndromes
abbrev pub agreeing : Lists → Bool
agreeing l = eqb (length l.syndromes) (length l.fars) && eqb (length l.syndromes) (length l.hpfars)

-- THE TESTS in their order, each with what comes where it fails: at most 65,536 bytes; equal counts; each domain at most 15; room for the
-- length by the counts
module _ {A : Type 0} (too_long unequal wide_domain no_room : A) where
  abbrev pub tests_of : Lists → ℕ → List (Test A)
  tests_of l room =
      needs (leb (length_by l) 65536) too_long
      ∷ needs (agreeing l) unequal
      ∷ needs (domains_fit l.injections) wide_domain
      ∷ needs (leb (length_by l) room) no_room
      ∷ []

-- each with its answer, and with its number
abbrev pub write_tests : Lists → ℕ → List (Test (Result ℕ WriteRefusal))
write_tests l room = tests_of (Err TooLong) (Err Unequal) (Err WideDomain) (Err NoRoom) l room

abbrev pub write_numbers : Lists → ℕ → List (Test ℕ)
write_numbers l room = tests_of 16 15 20 17 l room

-- the first test that fails gives the answer
unfoldable pub written_of : Lists → ℕ → Result ℕ WriteRefusal
written_of l room = decide (write_tests l room) (Ok (length_by l))

-- a log that was written stands at the front and what lies past it stays; a refusal leaves the whole buffer as it was
abbrev pub buffer_after : Result ℕ WriteRefusal → List ℕ → List ℕ → List ℕ
buffer_after (Ok n) log before = log ++ drop n before
buffer_after (Err refusal) log before = before

-- THE PROMISE of writing, of the buffer before it and after it: the answer; its number, by the first test that fails; the length by the
-- counts, 0 on a refusal; and the buffer
pub record Writing (l : Lists) (before after : List ℕ) (a : Result ℕ WriteRefusal) : Type 0 where
  pub answer : a ≡ written_of l (length before)
  pub number : number_of a ≡ decide (write_numbers l (length before)) 0
  pub written : length_in a ≡ cond (eqb (number_of a) 0) (length_by l) 0
  pub buffer : after ≡ buffer_after a (log_of (entries_from l)) before
