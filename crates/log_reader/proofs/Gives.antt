-- What the reader gives of an accepted log: moved past n sections it stands where section n + 1 starts, and gives its count, and its entry
-- i or none. Assumes nothing.
use mathlib.Core.Path.{◌≡◌, ap, ◌∙◌}
use mathlib.Core.List.{List}
use Prim.Native.Nat.{ℕ, ◌≤◌, ◌<◌}
use native.Mathlib.Nat.{zero-add}
use native.Mathlib.Omega.{arith}
use Rattle.std.specs.Prelude.{Some, None, Ok}
use lib.ListN.{get_or}
use Rattle.log_section.specs.Section.{sizes, end_of, rest_after, count_after}
use Rattle.log_section.specs.Log.{entries_of}
use Rattle.trap_log.specs.Answer.{read_of}
use Rattle.log_section.specs.Look.{look_at, start_after, entry_given}
use Rattle.log_section.specs.declared.entry.Place.{Place}
use Rattle.trap_log.proofs.Given.{moved_to, entry_found, entry_past}
use Rattle.log_reader.specs.Reader.{place_after, look_in}

module _ (s : List ℕ) {gone : ℕ} (e : read_of s ≡ Ok gone) where
  pub reader_stands : (n : ℕ) → n ≤ 4 → place_after s n ≡ record { passed = n; at = start_after s n }
  reader_stands n h = moved_to s e n 0 (omega arith) ∙ ap (λ (k : ℕ). record { passed = k; at = start_after s k }) (zero-add n)

  stands_there : (n i : ℕ) → n < 4 → look_in s n i ≡ look_at s n (start_after s n) i
  stands_there n i h = ap (λ (p : Place). look_at s p.passed p.at i) (reader_stands n (omega arith))

  pub reader_gives : (n i : ℕ) → n < 4 → i < count_after s n
      → look_in s n i ≡ record {
        section = Some record { count = count_after s n; end = end_of (get_or sizes n 0) (rest_after s n) };
        entry = Some (entry_given (entries_of s) n i);
      }
  reader_gives n i h k = stands_there n i h ∙ entry_found s e n i h k

  pub reader_has_none : (n i : ℕ) → n < 4 → count_after s n ≤ i
      → look_in s n i ≡ record {
        section = Some record { count = count_after s n; end = end_of (get_or sizes n 0) (rest_after s n) };
        entry = None;
      }
  reader_has_none n i h k = stands_there n i h ∙ entry_past s e n i h k
