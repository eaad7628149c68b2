-- Every piece has room in 65,536 bytes.
-- Assumes nothing.
use mathlib.Core.Bool.{Bool, true, false, cond}
use mathlib.Core.List.{List, [], ◌∷◌, ◌++◌, map}
use Prim.Native.Nat.{ℕ, zero, suc, ◌-◌, ◌≤◌}
use native.Mathlib.Omega.{arith}
use lib.ListN.{length, get_or, length-append}
use Rattle.trap_log.specs.Answer.{section_in, read_of}
use Rattle.log_section.specs.Log.{Address, Entries, injection_byte, domain_of}
use Rattle.std.specs.Prelude.{Result}
use Rattle.trap_log.specs.declared.answer.LogRefusal.{LogRefusal}
use Rattle.log_cut.specs.Whole.{cut_after}
use Rattle.log_text.proofs.CutRoom.{syndrome_length, cut_length}
use Rattle.log_text.specs.Lines.{read_text, edition_text}
use Rattle.log_text.proofs.Room.{read_length, edition_length, injection_length}
use Rattle.text.specs.Ascii.{ascii}
use Rattle.trap_text.proofs.Room.{trap_length}
use Rattle.log_pieces.specs.Text.{is_cut, shown, trap_pieces, injection_piece, entry_pieces, first_text, cut_in, last_text, later_pieces}
use Rattle.log_pieces.specs.Text.{pieces_in}

-- a text of at most 65,536 bytes
abbrev pub Short : List ℕ → Type 0
Short text = length text ≤ 65536

short_map : {A : Type 0} (f : A → List ℕ) → ((a : A) → Short (f a)) → (l : List A) (i : ℕ) → Short (get_or (map f l) i [])
short_map f h [] i = omega arith
short_map f h (a ∷ l) zero = h a
short_map f h (a ∷ l) (suc i) = short_map f h l i

short_traps : (seen : ℕ) (explained : Bool) (l : List ℕ) (m : List Address) (i : ℕ) → Short (get_or (trap_pieces seen explained l m) i [])
short_traps seen explained [] m i = omega arith
short_traps seen explained (esr ∷ l) [] zero = omega (arith, syndrome_length (record { 0 = esr }))
short_traps seen explained (esr ∷ l) [] (suc i) = short_traps seen explained l [] i
short_traps seen explained (esr ∷ l) (a ∷ m) zero = trap_length seen explained _ _ _
short_traps seen explained (esr ∷ l) (a ∷ m) (suc i) = short_traps seen explained l m i

short_both : (l m : List (List ℕ)) → ((i : ℕ) → Short (get_or l i [])) → ((i : ℕ) → Short (get_or m i [])) → (i : ℕ)
    → Short (get_or (l ++ m) i [])
short_both [] m h k i = k i
short_both (a ∷ l) m h k zero = h zero
short_both (a ∷ l) m h k (suc i) = short_both l m (λ j. h (suc j)) k i

short_entries_lem : (seen : ℕ) (explained : Bool) (e : Entries) (i : ℕ) → Short (get_or (entry_pieces seen explained e) i [])
unfolding entry_pieces
short_entries_lem seen explained e =
    let editions = map edition_text e.editions in
    let traps = trap_pieces seen explained e.syndromes e.addresses in
    let injections = map injection_piece e.injections in
    short_both editions (traps ++ injections) (short_map edition_text (λ n. omega (arith, edition_length n)) e.editions)
    (short_both traps injections
    (short_traps seen explained e.syndromes e.addresses)
    (short_map injection_piece (λ n. omega (arith, injection_length (injection_byte n) (domain_of n))) e.injections))

-- how the log was read, and where it is cut
first_short : (a : Result ℕ LogRefusal) → Short (first_text a)
first_short a = go (is_cut a)
  where
    go : (t : Bool) → Short (read_text a ++ cond t (ascii "what precedes the cut, if the counts are right:\n") [])
    go true = rw (length-append (read_text a) (ascii "what precedes the cut, if the counts are right:\n")) (omega (arith, read_length a))
    go false = rw (length-append (read_text a) []) (omega (arith, read_length a))

last_short : (s : List ℕ) → Short (last_text s)
last_short s = go (is_cut (read_of s))
  where
    go : (t : Bool) → Short (cond t (cut_in s (section_in (read_of s))) [])
    go true = omega (arith, cut_length (section_in (read_of s)) (cut_after s (section_in (read_of s) - 1)))
    go false = omega arith

short_last : (s : List ℕ) (i : ℕ) → Short (get_or (last_text s ∷ []) i [])
short_last s zero = last_short s
short_last s (suc i) = omega arith

pub piece_short : (seen : ℕ) (explained : Bool) (s : List ℕ) (i : ℕ) → Short (get_or (pieces_in seen explained s) i [])
unfolding pieces_in later_pieces
piece_short seen explained s zero = first_short (read_of s)
piece_short seen explained s (suc i) =
    short_both (entry_pieces seen explained (shown s)) (last_text s ∷ []) (short_entries_lem seen explained (shown s)) (short_last s) i
