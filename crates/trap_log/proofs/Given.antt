-- Of an accepted log, the places of its sections and the entries that a look there gives.
-- Assumes nothing.
use mathlib.Core.Path.{◌≡◌, refl, sym, ap, ◌∙◌}
use mathlib.Core.List.{List}
use Prim.Native.Nat.{ℕ, zero, suc, ◌+◌, ◌*◌, ◌≤◌, ◌<◌}
use native.Mathlib.Nat.{add-zero}
use native.Mathlib.Numerals.{add-one}
use native.Mathlib.Omega.{arith}
use Rattle.std.specs.Prelude.{Option, Some, None, Ok}
use lib.ListN.{length, drop, get_or, length-drop}
use lib.Seq.{drop-drop}
use Rattle.log_section.specs.Section.{injection_size, sizes, end_of, section_of, rest_after, count_after}
use Rattle.log_section.specs.Log.{Address, nowhere, byte_in, bytes_word, pair_in, injection_in, injection_byte, domain_of, entries_of, body_after}
use Rattle.trap_log.specs.Answer.{read_of}
use Rattle.log_section.specs.Look.{section_at, moved_past, skip_from, entry_in, look_at, start_after, entry_given}
use Rattle.log_section.specs.declared.section.Section.{Section}
use Rattle.log_section.specs.declared.entry.Entry.{Entry}
use Rattle.log_section.proofs.Codec.{entry_at_lem}
use Rattle.log_section.proofs.Found.{Whole, is_found}
use Rattle.log_section.proofs.Places.{place_in, look_found, look_past}
use Rattle.trap_log.proofs.RoundTrip.{accepts}

-- the rest after n sections starts where section n + 1 does
pub rest_at : (s : List ℕ) (n : ℕ) → rest_after s n ≡ drop (start_after s n) s
rest_at s zero = refl
rest_at s (suc n) =
    let size = get_or sizes n 0 in
    let end = end_of size (rest_after s n) in
    ap (drop end) (rest_at s n) ∙ drop-drop end (start_after s n) s

module _ (s : List ℕ) {gone : ℕ} (e : read_of s ≡ Ok gone) where
  whole_section : (n : ℕ) → n < 4 → Whole (get_or sizes n 0) (rest_after s n)
  whole_section zero h = (accepts s e).editions
  whole_section (suc zero) h = (accepts s e).syndromes
  whole_section (suc (suc zero)) h = (accepts s e).addresses
  whole_section (suc (suc (suc zero))) h = (accepts s e).injections
  whole_section (suc (suc (suc (suc n)))) h = absurd (omega arith)

  start_within : (n : ℕ) → n ≤ 4 → start_after s n ≤ length s
  start_within zero h = omega arith
  start_within (suc n) h =
      omega (
        arith,
        start_within n (omega arith),
        (whole_section n (omega arith)).within,
        ap length (rest_at s n),
        length-drop
            (start_after s n) s,
      )

  -- each section stands at its start, with its count
  pub section_stands_at : (n : ℕ) → n < 4 → section_at s n (start_after s n)
      ≡ Some record { count = count_after s n; end = end_of (get_or sizes n 0) (rest_after s n) }
  section_stands_at n h =
      let w = whole_section n h in
      sym (place_in s n (start_after s n) h (start_within n (omega arith)))
      ∙ ap (section_of (get_or sizes n 0)) (sym (rest_at s n))
      ∙ sym (is_found (get_or sizes n 0) (rest_after s n) (count_after s n) (end_of (get_or sizes n 0) (rest_after s n)) w.counted refl refl
      w.within)

  -- the reader that moves past n sections stands at section n + 1
  pub moved_to : (n k : ℕ) → k + n ≤ 4
      → skip_from s n record { passed = k; at = start_after s k } ≡ record { passed = k + n; at = start_after s (k + n) }
  moved_to zero k h = rw add-zero
  moved_to (suc n) k h =
      ap (λ (x : Option Section). skip_from s n (moved_past x record { passed = k; at = start_after s k })) (section_stands_at k (omega arith))
      ∙ ap (λ (m : ℕ). skip_from s n record { passed = m; at = start_after s k + end_of (get_or sizes k 0) (rest_after s k) }) (add-one k)
      ∙ moved_to n (suc k) (omega arith) ∙ ap (λ (m : ℕ). record { passed = m; at = start_after s m }) (omega arith)

  -- and finds its entries there, one by one: entry i, or none past the count
  body_at : (n i : ℕ) → drop (start_after s n + 4 + i * get_or sizes n 0) s ≡ drop (i * get_or sizes n 0) (body_after s n)
  body_at n i =
      let size = get_or sizes n 0 in
      sym (ap (λ (x : List ℕ). drop (i * size) (drop 4 x)) (rest_at s n)
      ∙ ap (drop (i * size)) (drop-drop 4 (start_after s n) s) ∙ drop-drop (i * size) (start_after s n + 4) s)

  given_in_lem : (n i : ℕ) → n < 4 → i < count_after s n → entry_in n (drop (i * get_or sizes n 0) (body_after s n)) ≡ entry_given (entries_of s) n i
  unfolding entries_of
  given_in_lem zero i h k = ap Entry.Edition (sym (entry_at_lem 1 byte_in (count_after s 0) (body_after s 0) i 0 k))
  given_in_lem (suc zero) i h k = ap (λ (w : ℕ). Entry.Syndrome (record { 0 = w }))
      (sym (entry_at_lem 8 bytes_word (count_after s 1) (body_after s 1) i 0 k))
  given_in_lem (suc (suc zero)) i h k =
      ap (λ (a : Address). Entry.Address (record { 0 = a.far }) (record { 0 = a.hpfar }))
      (sym (entry_at_lem 16 pair_in (count_after s 2) (body_after s 2) i nowhere k))
  given_in_lem (suc (suc (suc zero))) i h k =
      ap (λ (n : ℕ). Entry.Injection (injection_byte n) (domain_of n))
      (sym (entry_at_lem injection_size injection_in (count_after s 3) (body_after s 3) i 0 k))
  given_in_lem (suc (suc (suc (suc n)))) i h k = absurd (omega arith)

  pub entry_found : (n i : ℕ) → n < 4 → i < count_after s n
      → look_at s n (start_after s n) i ≡ record {
        section = Some record { count = count_after s n; end = end_of (get_or sizes n 0) (rest_after s n) };
        entry = Some (entry_given (entries_of s) n i);
      }
  entry_found n i h k =
      sym (look_found s n (start_after s n) i (section_stands_at n h) k)
      ∙ ap (λ (x : Entry). record {
        section = Some record { count = count_after s n; end = end_of (get_or sizes n 0) (rest_after s n) };
        entry = Some x;
      })
      (ap (entry_in n) (body_at n i) ∙ given_in_lem n i h k)

  pub entry_past : (n i : ℕ) → n < 4 → count_after s n ≤ i
      → look_at s n (start_after s n) i ≡ record {
        section = Some record { count = count_after s n; end = end_of (get_or sizes n 0) (rest_after s n) };
        entry = None;
      }
  entry_past n i h k = sym (look_past s n (start_after s n) i (section_stands_at n h) k)
