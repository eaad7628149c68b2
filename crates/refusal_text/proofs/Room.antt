-- How long a refusal in words can be.
-- Assumes nothing.
use mathlib.Core.Bool.{Bool, true, false, cond, ◌&&◌}
use mathlib.Core.List.{List, [], ◌∷◌, ◌++◌}
use Prim.Native.Nat.{ℕ, zero, suc, ◌*◌, ◌≤◌}
use native.Mathlib.Omega.{arith}
use lib.Dec.{T, leb, leb→le, eqb}
use lib.ListN.{length, length-append}
use Rattle.bits.specs.Field.{bit_of}
use Rattle.bits.proofs.Booleans.{both_left, both_right}
use Rattle.edition.specs.Mask.{mask_below}
use Rattle.edition.specs.declared.Refusal.{Refusal}
use Rattle.edition.specs.declared.Refusal.TheVariants.{UnknownEdition, UpperHalf, UnknownClass, ShortInstruction, NoEdition}
use Rattle.edition.specs.declared.Refusal.TheVariants.{OtherEditions}
use Rattle.names.specs.Name.{meaning_of}
use Rattle.names.specs.Value.{reasons}
use Rattle.names.proofs.Room.{meaning_length}
use Rattle.text.specs.Ascii.{ascii}
use Rattle.text.specs.Numeral.{hex_text}
use Rattle.text.proofs.Numerals.{hex_length}
use Rattle.refusal_text.specs.Feature.{Asked, fits, sets_of, editions_of, asked_in, asked_by, asked_lines}
use Rattle.refusal_text.specs.Refusal.{editions_below, editions_text, refusal_text}
use Rattle.refusal_text.specs.Why.{why_text}
use Rattle.refusal_text.proofs.Why.{reasons_at}

below_length : (n mask : ℕ) → length (editions_below n mask) ≤ 17 * n
unfolding editions_below
below_length zero mask = omega arith
below_length (suc n) mask = go (bit_of mask n) (below_length n mask)
  where
    go : (t : Bool) → length (editions_below n mask) ≤ 17 * n
        → length (editions_below n mask ++ cond t (ascii " " ++ hex_text n) []) ≤ 17 * suc n
    go true h = simp length-append (omega (arith, hex_length n))
    go false h = simp length-append (omega arith)

abbrev short_sets : List (List Asked) → Bool
short_sets [] = true
short_sets (s ∷ ss) = leb (length (asked_lines s)) 64 && short_sets ss

asked_in_lem : (ss : List (List Asked)) → T (short_sets ss) → (n mask : ℕ) → length (asked_lines (asked_in ss n mask)) ≤ 64
asked_in_lem [] t n mask = omega arith
asked_in_lem (s ∷ ss) t n mask =
    go (eqb mask (mask_below n (fits s))) (leb→le (length (asked_lines s)) 64 (both_left (leb (length (asked_lines s)) 64) (short_sets ss) t))
    (asked_in_lem ss (both_right (leb (length (asked_lines s)) 64) (short_sets ss) t) n mask)
  where
    go : (b : Bool) → length (asked_lines s) ≤ 64 → length (asked_lines (asked_in ss n mask)) ≤ 64
        → length (asked_lines (cond b s (asked_in ss n mask))) ≤ 64
    go true here there = here
    go false here there = there

asked_length : (short : Bool) (mask : ℕ) → length (asked_lines (asked_by short mask)) ≤ 64
asked_length true mask = asked_in_lem (sets_of true) tt 2 mask
asked_length false mask = asked_in_lem (sets_of false) tt 16 mask

editions_length : (short : Bool) (mask : ℕ) → length (editions_text (editions_of short) mask) ≤ 300
editions_length true mask = simp length-append (omega (arith, below_length 2 mask))
editions_length false mask = simp length-append (omega (arith, below_length 16 mask))

pub refusal_length : (short : Bool) (refusal : Refusal) → length (refusal_text short refusal) ≤ 512
refusal_length true UnknownEdition = omega arith
refusal_length false UnknownEdition = omega arith
refusal_length short UpperHalf = omega arith
refusal_length true UnknownClass = omega arith
refusal_length false UnknownClass = omega arith
refusal_length short ShortInstruction = omega arith
refusal_length short NoEdition = omega arith
refusal_length short (OtherEditions mask count) =
    let asked = asked_lines (asked_by short mask) in
    let editions = editions_text (editions_of short) mask in
    rw (length-append (ascii "refused 6: this edition doesn't have it, others do\n") (asked ++ editions), length-append asked editions)
    (omega (arith, asked_length short mask, editions_length short mask))

pub why_length : (rule : ℕ) → length (why_text rule) ≤ 140
why_length rule =
    let r : length (meaning_of reasons rule) ≤ 128 = rw reasons_at at (meaning_length 31 rule) in
    simp length-append (omega arith)
