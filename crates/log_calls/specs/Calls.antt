-- What each call answers, as numbers: that of the call by value.
use Rattle.std.specs.Prelude.{ℕ, ◌≡◌, Option, Some, None, Result, List, [], ◌∷◌, length}
use Rattle.trap_log.specs.Answer.{number_of, gone_in, section_in}
use Rattle.trap_log.specs.declared.answer.LogRefusal.{LogRefusal}
use Rattle.log_section.specs.declared.section.Section.{Section}
use Rattle.log_section.specs.declared.entry.Entry.{Entry}
use Rattle.log_section.specs.declared.entry.Look.{Look}
use Rattle.log_section.specs.Log.{log_of}
use Rattle.log_writer.specs.Lists.{Lists, entries_from}
use Rattle.log_writer.specs.Write.{written_of, length_in, buffer_after}
use Rattle.log_writer.specs.Write as writer

-- how many counts and entries were gone through, 0 on a refusal, and the section of refusal 13
pub record ReadLog (a : Result ℕ LogRefusal) (n : ℕ) (w : List ℕ) : Type 0 where
  pub answer : n ≡ number_of a
  pub words : w ≡ gone_in a ∷ section_in a ∷ []

abbrev pub whole_in : Option Section → ℕ
whole_in (Some section) = 1
whole_in None = 0

abbrev pub count_in : Option Section → ℕ
count_in (Some section) = section.count
count_in None = 0

-- the section that has such entries, 1 to 4
abbrev pub entry_in : Option Entry → ℕ
entry_in (Some (Entry.Edition edition)) = 1
entry_in (Some (Entry.Syndrome esr)) = 2
entry_in (Some (Entry.Address far hpfar)) = 3
entry_in (Some (Entry.Injection injection domain)) = 4
entry_in None = 0

abbrev pub first_in : Option Entry → ℕ
first_in (Some (Entry.Edition edition)) = edition
first_in (Some (Entry.Syndrome esr)) = esr.0
first_in (Some (Entry.Address far hpfar)) = far.0
first_in (Some (Entry.Injection injection domain)) = injection
first_in None = 0

abbrev pub second_in : Option Entry → ℕ
second_in (Some (Entry.Edition edition)) = 0
second_in (Some (Entry.Syndrome esr)) = 0
second_in (Some (Entry.Address far hpfar)) = hpfar.0
second_in (Some (Entry.Injection injection domain)) = domain
second_in None = 0

abbrev pub found_in : Look → List ℕ
found_in l =
    whole_in l.section ∷ count_in l.section ∷ entry_in l.entry ∷ first_in l.entry ∷ second_in l.entry ∷ []

-- the buffer before the call and after it, and the log's length, 0 on a refusal
pub record WrittenLog (l : Lists) (before : List ℕ) (n : ℕ) (after : List ℕ) (bytes : ℕ) : Type 0 where
  pub answer : n ≡ writer.number_of (written_of l (length before))
  pub size : bytes ≡ length_in (written_of l (length before))
  pub buffer : after ≡ buffer_after (written_of l (length before)) (log_of (entries_from l)) before
