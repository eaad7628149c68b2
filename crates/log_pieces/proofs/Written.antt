-- All the pieces, one after the other, are the log's text.
-- Assumes nothing.
use mathlib.Core.Path.{◌≡◌, refl, sym, ap, ◌∙◌}
use mathlib.Core.Bool.{Bool}
use mathlib.Core.List.{List, [], ◌∷◌, ◌++◌, append_assoc, append-nil, flatten}
use Prim.Native.Nat.{ℕ, zero, suc, ◌≤◌}
use native.Mathlib.Omega.{arith}
use lib.ListN.{length, take, get_or}
use lib.Seq.{take-suc, take-length}
use Rattle.log_pieces.specs.Text.{pieces_of, log_text, written_after}

flatten_one_more : (l : List (List ℕ)) (last : List ℕ) → flatten (l ++ (last ∷ [])) ≡ flatten l ++ last
unfolding flatten
flatten_one_more [] last = append-nil last
flatten_one_more (a ∷ l) last = ap (λ (rest : List ℕ). a ++ rest) (flatten_one_more l last) ∙ sym (append_assoc a (flatten l) last)

written_so_far : (explained : Bool) (s : List ℕ) (n : ℕ) → n ≤ length (pieces_of explained s)
    → written_after explained s n ≡ flatten (take n (pieces_of explained s))
unfolding flatten
written_so_far explained s zero h = refl
written_so_far explained s (suc n) h =
    ap (λ (text : List ℕ). text ++ get_or (pieces_of explained s) n []) (written_so_far explained s n (omega arith))
    ∙ sym (flatten_one_more (take n (pieces_of explained s)) (get_or (pieces_of explained s) n []))
    ∙ ap flatten (sym (take-suc (pieces_of explained s) n [] h))

-- WRITTEN: the pieces that the program goes through are the text of the log
pub all_written : (explained : Bool) (s : List ℕ) → written_after explained s (length (pieces_of explained s)) ≡ log_text explained s
unfolding log_text
all_written explained s =
    written_so_far explained s (length (pieces_of explained s)) (omega arith) ∙ ap flatten (take-length (pieces_of explained s))
