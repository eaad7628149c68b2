-- Appending nothing changes nothing, and one text after another is the two together.
-- Assumes nothing.
use mathlib.Core.Path.{◌≡◌, refl, sym, ◌∙◌}
use mathlib.Core.List.{List, [], ◌∷◌, ◌++◌}
use Prim.Native.Nat.{ℕ, suc, ◌+◌, ◌≤◌}
use native.Mathlib.Nat.{add-zero, add-suc, suc-add}
use native.Mathlib.Decide.{dec_le}
use native.Mathlib.Omega.{arith}
use lib.ListN.{length, take, drop, length-append, length-take}
use lib.Seq.{sets, sets-eq, set_out, length-sets, length-take-le, take_at}
use Rattle.io.specs.Counts.{IsPrefixLen}
use Rattle.text.specs.Append.{end_of, Appends, Extends}
use Rattle.text.specs.declared.Text.{Text}

-- what is stored past the end of a list is stored nowhere
pub sets_out : (vs l : List ℕ) (i : ℕ) → length l ≤ i → sets l i vs ≡ l
sets_out [] l i h = refl
sets_out (v ∷ vs) l i h = rw (set_out l i v h) (sets_out vs l (suc i) (omega arith))

sets_both : (xs ys l : List ℕ) (at : ℕ) → sets (sets l at xs) (at + length xs) ys ≡ sets l at (xs ++ ys)
sets_both [] ys l at = rw add-zero
sets_both (x ∷ xs) ys l at = rw (add-suc at (length xs), ← suc-add at (length xs)) (sets_both xs ys _ (suc at))

-- where the first fits, the second goes behind it; where not, both ends are past the buffer and the second goes nowhere
sets_end : (xs ys l : List ℕ) (at : ℕ) → Dec (at + length xs ≤ length l)
    → sets (sets l at xs) (end_of (length l) at (length xs)) ys ≡ sets l at (xs ++ ys)
sets_end xs ys l at (yes fits) =
    let e : end_of (length l) at (length xs) ≡ at + length xs = omega arith in
    rw e (sets_both xs ys l at)
sets_end xs ys l at (no full) =
    let out : (i : ℕ) → length l ≤ i → sets (sets l at xs) i ys ≡ sets l at xs =
    λ i p. sets_out ys (sets l at xs) i (rw length-sets p) in
    out (end_of (length l) at (length xs)) (omega arith) ∙ sym (out (at + length xs) (omega arith)) ∙ sets_both xs ys l at

end_both : (room at m n : ℕ) → end_of room (end_of room at m) n ≡ end_of room at (m + n)
end_both room at m n = omega arith

pub appends_both : {xs ys before middle after : List ℕ} {at end last : ℕ}
    → Appends xs before at middle end → Appends ys middle end after last → Appends (xs ++ ys) before at after last
appends_both {xs} {ys} {before} {at = at} a b =
    record {
      stored = b.stored ∙ rw (a.stored, a.ended) (sets_end xs ys before at (dec_le (at + length xs) (length before)));
      ended = b.ended ∙ rw (a.stored, a.ended, length-sets, length-append) (end_both (length before) at (length xs) (length ys));
    }

pub appends_none : (text : List ℕ) (at : ℕ) → Appends [] text at text at
appends_none text at = record { stored = refl; ended = omega arith }

-- a text that fits stands behind what was there
pub appends_fitting : {bytes before after : List ℕ} {at end : ℕ} → at + length bytes ≤ length before → Appends bytes before at after end
    → (end ≡ at + length bytes) × (take end after ≡ take at before ++ bytes)
appends_fitting {bytes} {before} {at = at} fits a =
    let e : end_of (length before) at (length bytes) ≡ at + length bytes = omega arith in
    let l : length (take at before ++ bytes) ≡ at + length bytes = simp (length-append, length-take) (omega arith) in (
      a.ended ∙ e,
      rw (a.stored, a.ended, e, sets-eq bytes before at fits)
          (take_at (take at before ++ bytes) (drop (at + length bytes) before) (at + length bytes) l),
    )

-- the end of a text stays within the buffer
pub appends_counts : {bytes before after : List ℕ} {at end : ℕ} → at ≤ length before → Appends bytes before at after end → IsPrefixLen end after
appends_counts {bytes} {before} {after} {at} {end} start a =
    let within : end ≤ length after = rw (a.stored, length-sets) (omega (arith, a.ended)) in
    (within, sym (length-take-le end after within))

-- the same of texts in their buffers
pub extends_both : {xs ys : List ℕ} {old middle new : Text} → Extends xs old middle → Extends ys middle new → Extends (xs ++ ys) old new
extends_both a b = record { appended = appends_both a.appended b.appended; same_buffer = b.same_buffer ∙ a.same_buffer }

pub extends_none : (text : Text) → Extends [] text text
extends_none text = record { appended = appends_none text.bytes.now text.end; same_buffer = refl }
