-- Words and states are each other's: 48 words come back from the state that they hold, and a state comes back from words with it in them,
-- where its marks are theirs.
-- Assumes nothing.
use mathlib.Core.Path.{◌≡◌, sym, subst, ◌∙◌, ap}
use mathlib.Core.List.{List, [], ◌∷◌, ◌++◌, append_assoc}
use Prim.Native.Nat.{ℕ, zero, suc, ◌+◌, ◌≤◌}
use native.Mathlib.Nat.{add-zero, add-suc, suc-add}
use native.Mathlib.Omega.{arith}
use lib.ListN.{length, get_or, take, drop, take-append-drop}
use lib.Seq.{drop-cons, take_at, get_or-append-add, get_or-drop}
use Rattle.exception.specs.declared.state.Guest.{Guest}
use Rattle.state_words.specs.Words.{is_mark, marks_of, state_of, after_registers, words_of}
use Rattle.state_words.specs.Lent.{Lent}

-- so many elements from a place on
elements : ℕ → ℕ → List ℕ → List ℕ
elements k zero w = []
elements k (suc n) w = get_or w k 0 ∷ elements (suc k) n w

from : (n k : ℕ) (w : List ℕ) → k + n ≤ length w → drop k w ≡ elements k n w ++ drop (k + n) w
unfolding elements
from zero k w h = ap (λ (m : ℕ). drop m w) (sym (add-zero k))
from (suc n) k w h =
    drop-cons w k 0 (omega arith)
    ∙ ap (λ (l : List ℕ). get_or w k 0 ∷ l)
    (from n (suc k) w (omega arith) ∙ ap (λ (m : ℕ). elements (suc k) n w ++ drop m w) (suc-add k n ∙ sym (add-suc k n)))

pub words_back : (w : List ℕ) → length w ≡ 48 → words_of w (state_of w) ≡ w
unfolding elements
words_back w l =
    append_assoc (take 31 w) (after_registers (state_of w)) (drop 45 w)
    ∙ ap (λ (r : List ℕ). take 31 w ++ r) (sym (from 14 31 w (omega arith)))
    ∙ take-append-drop 31 w

-- a call that gives back the state as it came leaves every word as it came
pub untouched : {w w' : List ℕ} {number n : ℕ} {after : Guest} → length w ≡ 48 → after ≡ state_of w → Lent w number after n w' → w' ≡ w
untouched {w = w} l e p = p.words ∙ ap (words_of w) e ∙ words_back w l

-- what stands behind so many
behind : (xs ys : List ℕ) (n i : ℕ) → length xs ≡ n → get_or (xs ++ ys) (n + i) 0 ≡ get_or ys i 0
behind xs ys n i e = subst (λ (k : ℕ). get_or (xs ++ ys) (k + i) 0 ≡ get_or ys i 0) e (get_or-append-add xs ys i 0)

pub state_back : (w : List ℕ) (s : Guest) → length s.regs ≡ 31 → marks_of w ≡ s.marks → state_of (words_of w s) ≡ s
state_back w s l m =
    let rest = after_registers s ++ drop 45 w in
    let at : (i : ℕ) → get_or (s.regs ++ rest) (31 + i) 0 ≡ get_or rest i 0 = λ i. behind s.regs rest 31 i l in
    ap state_of (append_assoc s.regs (after_registers s) (drop 45 w))
    ∙ (λ j. record {
      regs = take_at s.regs rest 31 l j;
      pc = at 0 j;
      status = at 1 j;
      saved = record { fiq = at 2 j; irq = at 3 j; svc = at 4 j; abt = at 5 j; und = at 6 j };
      faults = record { dfsr = at 7 j; ifsr = at 8 j; dfar = at 9 j; ifar = at 10 j };
      sctlr = at 11 j;
      vbar = at 12 j;
      ttbcr = at 13 j;
      marks = ((λ k. record {
        pan = is_mark ((at 14 ∙ get_or-drop 45 w 0 0) k);
        ssbs = is_mark ((at 15 ∙ get_or-drop 45 w 1 0) k);
        dit = is_mark ((at 16 ∙ get_or-drop 45 w 2 0) k);
      }) ∙ m) j;
    })
