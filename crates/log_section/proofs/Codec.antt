-- Entries of one kind, over any kind: written and read again, read and written again; and the section that they make.
-- Assumes nothing.
use mathlib.Core.Path.{◌≡◌, refl, sym, ap, ◌∙◌}
use mathlib.Core.Bool.{true}
use mathlib.Core.List.{List, [], ◌∷◌, ◌++◌, append_assoc}
use Prim.Native.Nat.{ℕ, zero, suc, ◌+◌, ◌*◌, ◌^◌, ◌≤◌, ◌<◌}
use native.Mathlib.Nat.{zero-mul, suc-mul, add_comm}
use native.Mathlib.Omega.{arith}
use borrow.Author.Tests.{le-leb}
use lib.ListN.{length, take, drop, get_or, length-append, length-drop, take-append-drop}
use lib.Seq.{take-add, take_at, drop_at, drop-drop, length-take-le}
use Rattle.log_section.specs.Number.{little, number, Bytes}
use Rattle.log_section.specs.Section.{count_of, end_of, whole_of, after_of}
use Rattle.log_section.specs.Log.{entry_bytes, section_bytes, entries_in}
use Rattle.log_section.proofs.Numbers.{length_little, number_little, little_number, bytes_drop, bytes_take}
use Rattle.log_section.proofs.Found.{Whole}

-- each element of a list
abbrev pub Each : {A : Type 0} → (A → Type 0) → List A → Type 0
Each P [] = Unit
Each P (a ∷ rest) = P a × Each P rest

-- the count's own bytes
count_again : (s : List ℕ) → Bytes s → 4 ≤ length s → little 4 (count_of s) ≡ take 4 s
unfolding count_of
count_again s b h =
    let l : length (take 4 s) ≡ 4 = length-take-le 4 s h in
    rw l at (little_number (take 4 s) (bytes_take 4 s b))

-- some bytes begin with a section of so many entries, and go on with the rest
pub record Stands (size count : ℕ) (s rest : List ℕ) : Type 0 where
  pub whole : whole_of size s ≡ true
  pub counts : count_of s ≡ count
  pub after : after_of size s ≡ rest

pub entries_count : {A : Type 0} (size : ℕ) (read : List ℕ → A) (n : ℕ) (s : List ℕ) → length (entries_in size read n s) ≡ n
entries_count size read zero s = refl
entries_count size read (suc n) s = ap suc (entries_count size read n (drop size s))

-- entry i of some entries
pub entry_at_lem : {A : Type 0} (size : ℕ) (read : List ℕ → A) (n : ℕ) (s : List ℕ) (i : ℕ) (other : A) → i < n
    → get_or (entries_in size read n s) i other ≡ read (drop (i * size) s)
entry_at_lem size read zero s i other h = absurd (omega arith)
entry_at_lem size read (suc n) s zero other h = rw zero-mul
entry_at_lem size read (suc n) s (suc i) other h =
    entry_at_lem size read n (drop size s) i other (omega arith)
    ∙ ap read (drop-drop (i * size) size s ∙ ap (λ (k : ℕ). drop k s) (add_comm size (i * size) ∙ sym (suc-mul i size)))

-- a kind of entry: its size, its bytes, and the entry that some bytes begin with
module _ {A : Type 0} (size : ℕ) (bytes : A → List ℕ) (read : List ℕ → A) (Fits : A → Type 0)
    (sized : (a : A) → length (bytes a) ≡ size)
    (back : (a : A) (rest : List ℕ) → Fits a → read (bytes a ++ rest) ≡ a)
    (again : (s : List ℕ) → Bytes s → size ≤ length s → bytes (read s) ≡ take size s) where
  pub entries_length : (entries : List A) → length (entry_bytes bytes entries) ≡ length entries * size
  entries_length [] = sym (zero-mul size)
  entries_length (a ∷ rest) = rw (length-append, sized a, entries_length rest, suc-mul) (add_comm size (length rest * size))

  pub entries_back : (entries : List A) (rest : List ℕ) → Each Fits entries
      → entries_in size read (length entries) (entry_bytes bytes entries ++ rest) ≡ entries
  entries_back [] rest f = refl
  entries_back (a ∷ more) rest f =
      rw (
        append_assoc (bytes a) (entry_bytes bytes more) rest,
        back a (entry_bytes bytes more ++ rest) f.0,
        drop_at (bytes a)
            (entry_bytes bytes more ++ rest) size (sized a),
      )
      (ap (λ (after : List A). a ∷ after) (entries_back more rest f.1))

  pub entries_again : (n : ℕ) (s : List ℕ) → Bytes s → n * size ≤ length s → entry_bytes bytes (entries_in size read n s) ≡ take (n * size) s
  entries_again zero s b h = rw zero-mul
  entries_again (suc n) s b h =
      let e : suc n * size ≡ size + n * size = suc-mul n size ∙ add_comm (n * size) size in
      let h' : size + n * size ≤ length s = rw e at h in
      rw (
        again s b (omega arith),
        entries_again n (drop size s) (bytes_drop size s b) (rw length-drop (omega arith)),
        e,
      )
      (sym (take-add size (n * size) s))

  -- the section of some entries, before the rest of a log
  pub section_length : (entries : List A) → length (section_bytes bytes entries) ≡ 4 + length entries * size
  section_length entries = rw (length-append, length_little, entries_length entries)

  module _ (entries : List A) (rest : List ℕ) (few : length entries < 2 ^ 32) where
    abbrev made : List ℕ
    made = section_bytes bytes entries ++ rest

    behind : made ≡ little 4 (length entries) ++ (entry_bytes bytes entries ++ rest)
    behind = append_assoc (little 4 (length entries)) (entry_bytes bytes entries) rest

    section_count : count_of made ≡ length entries
    unfolding count_of
    section_count =
        ap (λ (s : List ℕ). number (take 4 s)) behind
        ∙ ap number (take_at (little 4 (length entries)) (entry_bytes bytes entries ++ rest) 4 (length_little 4 (length entries)))
        ∙ number_little 4 (length entries) few

    section_end : length (section_bytes bytes entries) ≡ end_of size made
    section_end = rw section_count (section_length entries)

    section_after : after_of size made ≡ rest
    section_after = drop_at (section_bytes bytes entries) rest (end_of size made) section_end

    section_whole : whole_of size made ≡ true
    section_whole =
        let l : length made ≡ end_of size made + length rest = length-append (section_bytes bytes entries) rest
        ∙ ap (λ (n : ℕ). n + length rest) section_end in
        simp (le-leb 4 (length made) (omega arith), le-leb (end_of size made) (length made) (omega arith))

    section_back : Each Fits entries → entries_in size read (count_of made) (drop 4 made) ≡ entries
    section_back f =
        let body : drop 4 made ≡ entry_bytes bytes entries ++ rest =
        ap (drop 4) behind ∙ drop_at (little 4 (length entries)) (entry_bytes bytes entries ++ rest) 4 (length_little 4 (length entries)) in
        rw (section_count, body) (entries_back entries rest f)

  module _ (entries : List A) (rest s : List ℕ) (few : length entries < 2 ^ 32) (e : s ≡ section_bytes bytes entries ++ rest) where
    pub section_stands : Stands size (length entries) s rest
    section_stands =
        rw e
        record {
          whole = section_whole entries rest few;
          counts = section_count entries rest few;
          after = section_after entries rest few;
        }

    -- entries that fit are read back
    pub section_read : Each Fits entries → entries_in size read (count_of s) (drop 4 s) ≡ entries
    section_read fits = rw e (section_back entries rest few fits)

  -- a whole section that was read, written again before its rest
  pub section_again : (s : List ℕ) → Bytes s → Whole size s
      → section_bytes bytes (entries_in size read (count_of s) (drop 4 s)) ++ after_of size s ≡ s
  section_again s b w =
      let body : entry_bytes bytes (entries_in size read (count_of s) (drop 4 s)) ≡ take (count_of s * size) (drop 4 s) =
      entries_again (count_of s) (drop 4 s) (bytes_drop 4 s b) (rw length-drop (omega (arith, w.within))) in
      rw (entries_count, body, count_again s b w.counted, ← take-add 4 (count_of s * size) s, take-append-drop)
