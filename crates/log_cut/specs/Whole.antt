-- What stands whole in a log's bytes: every entry of a log that was accepted, and of one that is cut short those that precede the cut.
use Rattle.std.specs.Prelude.{ℕ, zero, suc, ◌-◌, ◌/◌, min, cond, Option, Some, None, List, [], leb, ltb, length, get_or}
use Rattle.log_section.specs.Section.{sizes, count_of, rest_after, whole_after}
use Rattle.log_section.specs.Log.{Entries, byte_in, bytes_word, pair_in, entries_in, body_after, injections_of}
use Rattle.log_section.specs.Look.{entry_given}
use Rattle.log_section.specs.declared.entry.Entry.{Entry}
use Rattle.log_cut.specs.declared.Cut.{Cut}

-- how many entries of a size stand whole in a section's bytes: as many as its count says, and no more than have room
abbrev pub standing : ℕ → List ℕ → ℕ
standing size rest = min (count_of rest) ((length rest - 4) / size)

-- THE ENTRIES THAT STAND WHOLE. Behind a section that is cut there is nothing. Injections are among them only where their section is whole:
-- in an older log one was a byte (C-21), and would be misread.
unfoldable pub whole_entries : List ℕ → Entries
whole_entries s =
    record {
      editions = entries_in 1 byte_in (standing 1 (rest_after s 0)) (body_after s 0);
      syndromes = entries_in 8 bytes_word (standing 8 (rest_after s 1)) (body_after s 1);
      addresses = entries_in 16 pair_in (standing 16 (rest_after s 2)) (body_after s 2);
      injections = cond (whole_after s 3) (injections_of s) [];
    }

-- how many of section n + 1 there are among some entries
abbrev pub count_in : Entries → ℕ → ℕ
count_in e zero = length e.editions
count_in e (suc zero) = length e.syndromes
count_in e (suc (suc zero)) = length e.addresses
count_in e (suc (suc (suc n))) = length e.injections

-- how many stand whole in section n + 1, and entry i of them
abbrev pub whole_count : List ℕ → ℕ → ℕ
whole_count s n = cond (ltb n 4) (count_in (whole_entries s) n) 0

abbrev pub whole_entry : List ℕ → ℕ → ℕ → Option Entry
whole_entry s n i = cond (ltb i (whole_count s n)) (Some (entry_given (whole_entries s) n i)) None

-- WHERE A SECTION IS CUT: within its count, or behind it. The count is as it stands, whatever it says.
abbrev pub cut_of : ℕ → List ℕ → Cut
cut_of size rest =
    cond (leb 4 (length rest)) (Cut.Entries (standing size rest) (count_of rest) (length rest - 4)) (Cut.Count (length rest))

abbrev pub cut_after : List ℕ → ℕ → Cut
cut_after s n = cond (ltb n 4) (cut_of (get_or sizes n 0) (rest_after s n)) (Cut.Count 0)
