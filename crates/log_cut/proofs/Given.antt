-- The entries that stand whole, one by one.
-- Assumes nothing.
use mathlib.Core.Path.{◌≡◌, refl, sym, ap, ◌∙◌}
use mathlib.Core.Bool.{Bool, true, false, cond}
use mathlib.Core.List.{List, []}
use Prim.Native.Nat.{ℕ, zero, suc, ◌+◌, ◌*◌, ◌≤◌, ◌<◌}
use native.Mathlib.Omega.{arith}
use borrow.Author.Tests.{lt-ltb, le-ltb, ltb-true}
use lib.Dec.{ltb}
use Rattle.std.specs.Prelude.{Some, None}
use lib.ListN.{length, drop, get_or, length-drop}
use lib.Seq.{drop-drop}
use Rattle.log_section.specs.Section.{injection_size, sizes, rest_after, count_after, whole_after}
use Rattle.log_section.specs.Log.{Address, nowhere, byte_in, bytes_word, pair_in, injection_in, injection_byte, domain_of, injections_of, body_after}
use Rattle.log_section.specs.Look.{entry_in, entry_at, entry_given}
use Rattle.log_section.specs.declared.entry.Entry.{Entry}
use Rattle.log_section.proofs.Codec.{entries_count, entry_at_lem}
use Rattle.log_section.proofs.Found.{whole_is}
use Rattle.log_section.proofs.Places.{entry_here}
use Rattle.log_cut.specs.Whole.{standing, whole_entries, count_in, whole_count, whole_entry, cut_after}
use Rattle.log_cut.specs.declared.Cut.{Cut}
use Rattle.log_cut.proofs.Standings.{standing_room}

-- where each section is cut, and how many there are in it
module _ (s : List ℕ) where
  pub cut_nowhere : (n : ℕ) → 4 ≤ n → Cut.Count 0 ≡ cut_after s n
  cut_nowhere n h = sym (simp (le-ltb n 4 h))

  pub none_counted : (n : ℕ) → 4 ≤ n → 0 ≡ whole_count s n
  none_counted n h = sym (simp (le-ltb n 4 h))

  pub standing_counted : (n : ℕ) → n < 4 → (n ≡ 3 → ⊥) → standing (get_or sizes n 0) (rest_after s n) ≡ whole_count s n
  unfolding whole_entries
  standing_counted zero h o = sym (entries_count 1 byte_in (standing 1 (rest_after s 0)) (body_after s 0))
  standing_counted (suc zero) h o = sym (entries_count 8 bytes_word (standing 8 (rest_after s 1)) (body_after s 1))
  standing_counted (suc (suc zero)) h o = sym (entries_count 16 pair_in (standing 16 (rest_after s 2)) (body_after s 2))
  standing_counted (suc (suc (suc n))) h o = absurd (o (omega arith))

  injections_length : (t : Bool) → cond t (count_after s 3) 0 ≡ length (cond t (injections_of s) [])
  injections_length true = sym (entries_count injection_size injection_in (count_after s 3) (body_after s 3))
  injections_length false = refl

  pub injections_counted : cond (whole_after s 3) (count_after s 3) 0 ≡ whole_count s 3
  unfolding whole_entries
  injections_counted = injections_length (whole_after s 3)

  -- an injection that stands whole stands in a whole section
  all_injections : (i : ℕ) → i < whole_count s 3 → (whole_after s 3 ≡ true) × (i < count_after s 3)
  all_injections i k = go (whole_after s 3) refl (rw (sym injections_counted) at k)
    where
      go : (t : Bool) → whole_after s 3 ≡ t → i < cond t (count_after s 3) 0 → (whole_after s 3 ≡ true) × (i < count_after s 3)
      go true p h = (p, h)
      go false p h = absurd (omega arith)

  -- there are none but in the four sections
  pub in_a_section : (n i : ℕ) → i < whole_count s n → n < 4
  in_a_section n i = go (ltb n 4) refl
    where
      go : (t : Bool) → ltb n 4 ≡ t → i < cond t (count_in (whole_entries s) n) 0 → n < 4
      go true p h = ltb-true n 4 p
      go false p h = absurd (omega arith)

  -- entry i has room in the rest of the log
  room_in : (n i : ℕ) → i < whole_count s n → n < 4 → 4 + i * get_or sizes n 0 + get_or sizes n 0 ≤ length (rest_after s n)
  room_in zero i k h = standing_room 1 (rest_after s 0) (omega arith) i (rw (sym (standing_counted 0 h (λ e. omega arith))) at k)
  room_in (suc zero) i k h = standing_room 8 (rest_after s 1) (omega arith) i (rw (sym (standing_counted 1 h (λ e. omega arith))) at k)
  room_in (suc (suc zero)) i k h =
      standing_room 16 (rest_after s 2) (omega arith) i (rw (sym (standing_counted 2 h (λ e. omega arith))) at k)
  room_in (suc (suc (suc zero))) i k h =
      let all = all_injections i k in
      omega (arith, (whole_is injection_size (rest_after s 3) all.0).within, all.1)
  room_in (suc (suc (suc (suc n)))) i k h = absurd (omega arith)

  -- and is read there
  read_in : (n i : ℕ) → i < whole_count s n → n < 4 → entry_in n (drop (i * get_or sizes n 0) (body_after s n)) ≡ entry_given (whole_entries s) n i
  unfolding whole_entries
  read_in zero i k h =
      ap Entry.Edition
      (sym (entry_at_lem 1 byte_in (standing 1 (rest_after s 0)) (body_after s 0) i 0 (rw (sym (standing_counted 0 h (λ e. omega arith))) at k)))
  read_in (suc zero) i k h =
      ap (λ (w : ℕ). Entry.Syndrome (record { 0 = w }))
      (sym (entry_at_lem 8 bytes_word (standing 8 (rest_after s 1)) (body_after s 1) i 0 (rw (sym (standing_counted 1 h (λ e. omega arith))) at k)))
  read_in (suc (suc zero)) i k h =
      ap (λ (a : Address). Entry.Address (record { 0 = a.far }) (record { 0 = a.hpfar }))
      (sym (entry_at_lem 16 pair_in (standing 16 (rest_after s 2)) (body_after s 2) i nowhere
      (rw (sym (standing_counted 2 h (λ e. omega arith))) at k)))
  read_in (suc (suc (suc zero))) i k h =
      let all = all_injections i k in
      ap (λ (n : ℕ). Entry.Injection (injection_byte n) (domain_of n))
      (sym (ap (λ (t : Bool). get_or (cond t (injections_of s) []) i 0) all.0
      ∙ entry_at_lem injection_size injection_in (count_after s 3) (body_after s 3) i 0 all.1))
  read_in (suc (suc (suc (suc n)))) i k h = absurd (omega arith)

  pub no_entry_past : (n i : ℕ) → whole_count s n ≤ i → None ≡ whole_entry s n i
  no_entry_past n i h = sym (simp (le-ltb i (whole_count s n) h))

  -- behind the section's start
  module _ (n i at : ℕ) (k : i < whole_count s n) (w : at ≤ length s) (r : drop at s ≡ rest_after s n) where
    pub room_there : at + 4 + i * get_or sizes n 0 + get_or sizes n 0 ≤ length s
    room_there = omega (arith, room_in n i k (in_a_section n i k), ap length r, length-drop at s)

    there : drop (at + 4 + i * get_or sizes n 0) s ≡ drop (i * get_or sizes n 0) (body_after s n)
    there =
        let size = get_or sizes n 0 in
        sym (ap (λ (x : List ℕ). drop (i * size) (drop 4 x)) (sym r) ∙ ap (drop (i * size)) (drop-drop 4 at s)
        ∙ drop-drop (i * size) (at + 4) s)

    pub entry_there : entry_at s n (at + 4 + i * get_or sizes n 0) ≡ whole_entry s n i
    entry_there =
        let h = in_a_section n i k in
        sym (entry_here s n (at + 4 + i * get_or sizes n 0) h room_there) ∙ ap Some (ap (entry_in n) there ∙ read_in n i k h)
        ∙ sym (simp (lt-ltb i (whole_count s n) k))
