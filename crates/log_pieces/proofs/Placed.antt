-- Piece i of those after the first is the line of an edition, the lines of a trap, the line of an injection or that of the cut.
-- Assumes nothing.
use mathlib.Core.Path.{◌≡◌, refl, sym, ap, ◌∙◌, subst}
use mathlib.Core.Bool.{Bool}
use mathlib.Core.List.{List, [], ◌∷◌, ◌++◌, map}
use Prim.Native.Nat.{ℕ, zero, suc, ◌+◌, ◌-◌, ◌≤◌, ◌<◌}
use native.Mathlib.Omega.{arith}
use lib.ListN.{length, get_or, length-append, length-map, get_or-append, get_or-eq_default}
use lib.Seq.{get_or-append-add}
use Rattle.log_section.specs.Log.{Address, Entries, nowhere}
use Rattle.trap_log.specs.Answer.{read_of}
use Rattle.log_cut.specs.Whole.{count_in}
use Rattle.log_text.specs.Cut.{syndrome_text}
use Rattle.log_text.specs.Lines.{edition_text}
use Rattle.text.specs.Append.{Extends}
use Rattle.text.specs.declared.Text.{Text}
use Rattle.log_pieces.specs.Text.{shown, seen_mask, trap_piece, trap_pieces, injection_piece, entry_pieces, first_text, last_text}
use Rattle.log_pieces.specs.Text.{later_pieces, pieces_in, pieces_of}

map_at : {A : Type 0} (f : A → List ℕ) (l : List A) (i : ℕ) (other : A) → i < length l → get_or (map f l) i [] ≡ f (get_or l i other)
map_at f [] i other h = absurd (omega arith)
map_at f (a ∷ l) zero other h = refl
map_at f (a ∷ l) (suc i) other h = map_at f l i other (omega arith)

-- an element past a first list is one of the second
past : (l m : List (List ℕ)) (i n : ℕ) → length l ≡ n → n ≤ i → get_or (l ++ m) i [] ≡ get_or m (i - n) []
past l m i n e h =
    let place : i ≡ length l + (i - n) = omega arith in
    ap (λ (k : ℕ). get_or (l ++ m) k []) place ∙ get_or-append-add l m (i - n) []

-- a trap for each syndrome, with its address or without
module _ (seen : ℕ) (explained : Bool) where
  traps_length : (l : List ℕ) (m : List Address) → length (trap_pieces seen explained l m) ≡ length l
  traps_length [] m = refl
  traps_length (esr ∷ l) [] = ap suc (traps_length l [])
  traps_length (esr ∷ l) (a ∷ m) = ap suc (traps_length l m)

  pub with_address : (l : List ℕ) (m : List Address) (i : ℕ) → i < length l → i < length m
      → trap_piece seen explained (get_or l i 0) (get_or m i nowhere) ≡ get_or (trap_pieces seen explained l m) i []
  with_address [] m i h k = absurd (omega arith)
  with_address (esr ∷ l) [] i h k = absurd (omega arith)
  with_address (esr ∷ l) (a ∷ m) zero h k = refl
  with_address (esr ∷ l) (a ∷ m) (suc i) h k = with_address l m i (omega arith) (omega arith)

  pub without_address : (l : List ℕ) (m : List Address) (i : ℕ) → i < length l → length m ≤ i
      → syndrome_text (record { 0 = get_or l i 0 }) ≡ get_or (trap_pieces seen explained l m) i []
  without_address [] m i h k = absurd (omega arith)
  without_address (esr ∷ l) [] zero h k = refl
  without_address (esr ∷ l) [] (suc i) h k = without_address l [] i (omega arith) (omega arith)
  without_address (esr ∷ l) (a ∷ m) zero h k = absurd (omega arith)
  without_address (esr ∷ l) (a ∷ m) (suc i) h k = without_address l m i (omega arith) (omega arith)

module _ (seen : ℕ) (explained : Bool) (e : Entries) where
  abbrev editions : List (List ℕ)
  editions = map edition_text e.editions

  abbrev traps : List (List ℕ)
  traps = trap_pieces seen explained e.syndromes e.addresses

  abbrev injections : List (List ℕ)
  injections = map injection_piece e.injections

  entries_length : length (entry_pieces seen explained e) ≡ count_in e 0 + count_in e 1 + count_in e 3
  unfolding entry_pieces
  entries_length =
      rw (length-append, length-append, length-map, traps_length seen explained e.syndromes e.addresses, length-map) (omega arith)

  edition_at : (i : ℕ) → i < count_in e 0 → edition_text (get_or e.editions i 0) ≡ get_or (entry_pieces seen explained e) i []
  unfolding entry_pieces
  edition_at i h =
      sym (get_or-append editions (traps ++ injections) [] i (rw length-map h) ∙ map_at edition_text e.editions i 0 h)

  after_editions : (i : ℕ) → count_in e 0 ≤ i → get_or (traps ++ injections) (i - count_in e 0) [] ≡ get_or (entry_pieces seen explained e) i []
  unfolding entry_pieces
  after_editions i h = sym (past editions (traps ++ injections) i (count_in e 0) (length-map e.editions edition_text) h)

  trap_at : (i : ℕ) → count_in e 0 ≤ i → i - count_in e 0 < count_in e 1
      → get_or traps (i - count_in e 0) [] ≡ get_or (entry_pieces seen explained e) i []
  trap_at i h k =
      sym (get_or-append traps injections [] (i - count_in e 0) (rw (traps_length seen explained e.syndromes e.addresses) k))
      ∙ after_editions i h

  injection_at : (i : ℕ) → count_in e 0 ≤ i → count_in e 1 ≤ i - count_in e 0 → i - count_in e 0 - count_in e 1 < count_in e 3
      → injection_piece (get_or e.injections (i - count_in e 0 - count_in e 1) 0) ≡ get_or (entry_pieces seen explained e) i []
  injection_at i h k l =
      sym (map_at injection_piece e.injections (i - count_in e 0 - count_in e 1) 0 l)
      ∙ sym (past traps injections (i - count_in e 0) (count_in e 1) (traps_length seen explained e.syndromes e.addresses) k)
      ∙ after_editions i h

-- the pieces after the first: those of the entries, and the last
module _ (seen : ℕ) (explained : Bool) (s : List ℕ) where
  abbrev entries : Entries
  entries = shown s

  among_entries : (i : ℕ) → i < count_in entries 0 + count_in entries 1 + count_in entries 3
      → get_or (entry_pieces seen explained entries) i [] ≡ get_or (later_pieces seen explained s) i []
  unfolding later_pieces
  among_entries i h =
      sym (get_or-append (entry_pieces seen explained entries) (last_text s ∷ []) [] i (rw (entries_length seen explained entries) h))

  after_entries : (i : ℕ) → count_in entries 0 + count_in entries 1 + count_in entries 3 ≤ i
      → get_or (last_text s ∷ []) (i - (count_in entries 0 + count_in entries 1 + count_in entries 3)) []
      ≡ get_or (later_pieces seen explained s) i []
  unfolding later_pieces
  after_entries i h =
      sym (past (entry_pieces seen explained entries) (last_text s ∷ []) i (count_in entries 0 + count_in entries 1 + count_in entries 3)
      (entries_length seen explained entries) h)

  pub edition_piece : (i : ℕ) → i < count_in entries 0
      → edition_text (get_or entries.editions i 0) ≡ get_or (later_pieces seen explained s) i []
  edition_piece i h = edition_at seen explained entries i h ∙ among_entries i (omega arith)

  -- by the counts that were worked out
  module _ {m n : ℕ} (first : m ≡ count_in entries 0) (second : n ≡ count_in entries 1) (i : ℕ) (h : m ≤ i) where
    pub trap_piece_lem : i - m < n
        → get_or (trap_pieces seen explained entries.syndromes entries.addresses) (i - m) [] ≡ get_or (later_pieces seen explained s) i []
    trap_piece_lem k =
        rw first
        (trap_at seen explained entries i (rw first at h) (rw (first, second) at k) ∙ among_entries i (omega arith))

    module _ {p : ℕ} (third : p ≡ count_in entries 3) (k : n ≤ i - m) where
      pub injection_piece_lem : i - m - n < p
          → injection_piece (get_or entries.injections (i - m - n) 0) ≡ get_or (later_pieces seen explained s) i []
      injection_piece_lem l =
          rw (first, second)
          (injection_at seen explained entries i (rw first at h) (rw (first, second) at k) (rw (first, second, third) at l)
          ∙ among_entries i (omega arith))

      pub last_piece : i - m - n ≡ p → last_text s ≡ get_or (later_pieces seen explained s) i []
      last_piece l =
          let place : i - (count_in entries 0 + count_in entries 1 + count_in entries 3) ≡ 0 = omega arith in
          rw place at (after_entries i (omega arith))

      pub no_piece : p < i - m - n → [] ≡ get_or (later_pieces seen explained s) i []
      no_piece l =
          let more : 1 ≤ i - (count_in entries 0 + count_in entries 1 + count_in entries 3) = omega arith in
          sym (get_or-eq_default (last_text s ∷ []) [] more) ∙ after_entries i (omega arith)

  later_length : length (later_pieces seen explained s) ≡ count_in entries 0 + count_in entries 1 + count_in entries 3 + 1
  unfolding later_pieces
  later_length = rw (length-append, entries_length seen explained entries)

-- how many pieces a log has
pub pieces_counted : (explained : Bool) (s : List ℕ)
    → 2 + count_in (shown s) 0 + count_in (shown s) 1 + count_in (shown s) 3 ≡ length (pieces_of explained s)
unfolding pieces_in
pieces_counted explained s = omega (arith, later_length (seen_mask (shown s)) explained s)

-- the first piece, and the others
pub first_piece : (seen : ℕ) (explained : Bool) (s : List ℕ) (i : ℕ) → i ≡ 0 → first_text (read_of s) ≡ get_or (pieces_in seen explained s) i []
unfolding pieces_in
first_piece seen explained s i e = rw e

pub later_piece : (seen : ℕ) (explained : Bool) (s : List ℕ) (i : ℕ) → (i ≡ 0 → ⊥)
    → get_or (later_pieces seen explained s) (i - 1) [] ≡ get_or (pieces_in seen explained s) i []
unfolding pieces_in
later_piece seen explained s zero n = absurd (n refl)
later_piece seen explained s (suc i) n =
    let e : suc i - 1 ≡ i = omega arith in
    rw e

pub same_text : {xs ys : List ℕ} {old new : Text} → xs ≡ ys → Extends xs old new → Extends ys old new
same_text {old = old} {new} e a = subst (λ (text : List ℕ). Extends text old new) e a
