-- A line fed byte by byte and ended is the line read whole, however long it is.
-- Assumes nothing.
use mathlib.Core.Path.{◌≡◌, refl, sym, ap, ◌∙◌}
use mathlib.Core.Bool.{Bool, true, false, cond}
use mathlib.Core.List.{List, [], ◌∷◌, append-nil}
use Prim.Native.Nat.{ℕ, ◌+◌, ◌≤◌, ◌<◌}
use native.Mathlib.Nat.{zero-add, add-zero, add-suc, suc-add}
use native.Mathlib.Numerals.{add-one}
use native.Mathlib.Decide.{dec_le}
use native.Mathlib.Omega.{arith}
use borrow.Author.Tests.{lt-ltb, le-ltb, ne_eqb, eqb-true, eqb-false}
use lib.Dec.{eqb}
use lib.ListN.{length, set, replicate}
use lib.Seq.{sets, sets-eq}
use Rattle.line.specs.Line.{line_of}
use Rattle.line.specs.Feed.{started, fed, fed_all, ended}
use Rattle.std.specs.Prelude.{None}
use Rattle.line.specs.declared.State.{State}

wrong_length : (line : List ℕ) → (length line ≡ 18 → ⊥) → line_of line ≡ None
unfolding line_of
wrong_length line l = simp (ne_eqb (length line) 18 l)

kept : (s : State 18) (byte : ℕ) → s.count < 18 → fed 18 s byte ≡ record { bytes = set s.bytes s.count byte; count = s.count + 1 }
kept s byte h = simp (lt-ltb s.count 18 h)

passed : (s : State 18) (byte : ℕ) → 18 ≤ s.count → fed 18 s byte ≡ record { bytes = s.bytes; count = 19 }
passed s byte h = simp (le-ltb s.count 18 h)

-- as long as there is room, the bytes are kept one by one and counted
fits : (line : List ℕ) (s : State 18) → s.count + length line ≤ 18
    → fed_all 18 s line ≡ record { bytes = sets s.bytes s.count line; count = s.count + length line }
fits [] s h = rw add-zero
fits (byte ∷ rest) s h =
    ap (λ t. fed_all 18 t rest) (kept s byte (omega arith)) ∙ fits rest _ (omega arith) ∙ rw (add-one, add-suc, suc-add)

-- a longer line is counted to 19
overfull : (line : List ℕ) (s : State 18) → 18 < s.count + length line → s.count ≤ 19 → (fed_all 18 s line).count ≡ 19
overfull [] s h k = omega arith
overfull (byte ∷ rest) s h k = go (dec_le 18 s.count) (overfull rest)
  where
    go : Dec (18 ≤ s.count) → ((t : State 18) → 18 < t.count + length rest → t.count ≤ 19 → (fed_all 18 t rest).count ≡ 19)
        → (fed_all 18 (fed 18 s byte) rest).count ≡ 19
    go (yes full) more = ap (λ t. (fed_all 18 t rest).count) (passed s byte full) ∙ more _ (omega arith) (omega arith)
    go (no room) more = ap (λ t. (fed_all 18 t rest).count) (kept s byte (omega arith)) ∙ more _ (omega arith) (omega arith)

-- 18 bytes take the place of the 18 zeros
filled : (line : List ℕ) → length line ≡ 18 → sets (replicate 18 0) 0 line ≡ line
filled line e = sets-eq line (replicate 18 0) 0 (omega arith) ∙ rw (zero-add, e) (append-nil line)

miscounted : (line : List ℕ) → (length line ≡ 18 → ⊥) → Dec (length line ≤ 18) → (fed_all 18 (started 18) line).count ≡ 18 → ⊥
miscounted line n (yes h) e = n (omega (arith, ap (λ s. s.count) (fits line (started 18) (omega arith))))
miscounted line n (no h) e = omega (arith, overfull line (started 18) (omega arith) (omega arith))

pub fed_line : (line : List ℕ) → ended (fed_all 18 (started 18) line) ≡ line_of line
fed_line line = go (eqb (length line) 18) refl
  where
    go : (t : Bool) → eqb (length line) 18 ≡ t → ended (fed_all 18 (started 18) line) ≡ line_of line
    go true e =
        let n = eqb-true (length line) 18 e in
        ap ended (fits line (started 18) (omega arith)) ∙ rw (zero-add, e) (ap line_of (filled line n))
    go false e =
        let n = eqb-false (length line) 18 e in
        ap (λ t. cond t (line_of (fed_all 18 (started 18) line).bytes) None)
        (ne_eqb (fed_all 18 (started 18) line).count 18 (miscounted line n (dec_le (length line) 18)))
        ∙ sym (wrong_length line n)

-- a line of some bytes is not taken for an empty one
pub fed_some : (byte : ℕ) (line : List ℕ) → (fed_all 18 (started 18) (byte ∷ line)).count ≡ 0 → ⊥
fed_some byte line e = go (dec_le (length (byte ∷ line)) 18)
  where
    go : Dec (length (byte ∷ line) ≤ 18) → ⊥
    go (yes h) = omega (arith, ap (λ s. s.count) (fits (byte ∷ line) (started 18) (omega arith)))
    go (no h) = omega (arith, overfull (byte ∷ line) (started 18) (omega arith) (omega arith))
