-- Places in a list: of two lists one after the other, of modes that differ, and of the saved words.
-- Assumes nothing.
use mathlib.Core.Path.{◌≡◌, refl, sym, ap, ◌∙◌}
use mathlib.Core.Bool.{Bool, true, false, ◌||◌, cond, true≢false}
use mathlib.Core.List.{List, [], ◌∷◌, ◌++◌}
use Prim.Native.Nat.{ℕ}
use lib.Dec.{eqb}
use lib.ListN.{get_or, set}
use borrow.Author.Tests.{eqb-true, eq-eqb}
use Rattle.bits.specs.Among.{among}
use Rattle.bits.proofs.Booleans.{not_true_false, either_false}
use Rattle.status.specs.declared.Mode.{Mode}
use Rattle.status.specs.declared.Mode.TheVariants.{Supervisor, Abort, Undefined, Fiq, Irq}
use Rattle.status.specs.Mode.{mode_number}
use Rattle.exception.specs.declared.state.Saved.{Saved}
use Rattle.exception.specs.Entry.{saved_in}
use Rattle.resume.specs.Return.{saved_of}
use Rattle.resume.specs.Same.{saved_words, link_place, saved_place, each}

either_false_right : (a b : Bool) → (a || b) ≡ false → b ≡ false
either_false_right true b e = absurd (true≢false e)
either_false_right false b e = e

-- ---- none of two lists

pub among_first : (ps qs : List ℕ) (n : ℕ) → among (ps ++ qs) n ≡ false → among ps n ≡ false
among_first [] qs n e = refl
among_first (p ∷ ps) qs n e =
    ap (λ (b : Bool). b || among ps n) (either_false (eqb n p) (among (ps ++ qs) n) e)
    ∙ among_first ps qs n (either_false_right (eqb n p) (among (ps ++ qs) n) e)

pub among_second : (ps qs : List ℕ) (n : ℕ) → among (ps ++ qs) n ≡ false → among qs n ≡ false
among_second [] qs n e = e
among_second (p ∷ ps) qs n e = among_second ps qs n (either_false_right (eqb n p) (among (ps ++ qs) n) e)

pub not_at : (n k : ℕ) → among (k ∷ []) n ≡ false → n ≡ k → ⊥
not_at n k e q = true≢false (sym (eq-eqb n k q) ∙ either_false (eqb n k) false e)

-- ---- a place of a mode is no other mode's, where the place tells the mode

place_differs : (f : Mode → ℕ) (back : ℕ → ℕ) → ((m : Mode) → back (f m) ≡ mode_number m) → (ms : List Mode) (m : Mode)
    → among (each mode_number ms) (mode_number m) ≡ false → among (each f ms) (f m) ≡ false
place_differs f back tells [] m e = refl
place_differs f back tells (k ∷ ks) m e =
    ap (λ (b : Bool). b || among (each f ks) (f m)) other
    ∙ place_differs f back tells ks m (either_false_right (eqb (mode_number m) (mode_number k)) (among (each mode_number ks) (mode_number m)) e)
  where
    other : eqb (f m) (f k) ≡ false
    other =
        not_true_false (eqb (f m) (f k))
        (λ same. true≢false
        (sym (eq-eqb (mode_number m) (mode_number k) (sym (tells m) ∙ ap back (eqb-true (f m) (f k) same) ∙ tells k))
        ∙ either_false (eqb (mode_number m) (mode_number k)) (among (each mode_number ks) (mode_number m)) e))

-- the mode of a link register, and of a place among the saved words
mode_of_link : ℕ → ℕ
mode_of_link n = cond (eqb n 30) 0x11 (cond (eqb n 16) 0x12 (cond (eqb n 18) 0x13 (cond (eqb n 20) 0x17 0x1B)))

mode_of_place : ℕ → ℕ
mode_of_place n = cond (eqb n 0) 0x11 (cond (eqb n 1) 0x12 (cond (eqb n 2) 0x13 (cond (eqb n 3) 0x17 0x1B)))

link_tells : (m : Mode) → mode_of_link (link_place m) ≡ mode_number m
unfolding mode_of_link
link_tells Supervisor = refl
link_tells Abort = refl
link_tells Undefined = refl
link_tells Fiq = refl
link_tells Irq = refl

place_tells : (m : Mode) → mode_of_place (saved_place m) ≡ mode_number m
unfolding mode_of_place
place_tells Supervisor = refl
place_tells Abort = refl
place_tells Undefined = refl
place_tells Fiq = refl
place_tells Irq = refl

pub link_differs : (ms : List Mode) (m : Mode) → among (each mode_number ms) (mode_number m) ≡ false
    → among (each link_place ms) (link_place m) ≡ false
link_differs = place_differs link_place mode_of_link link_tells

pub saved_differs : (ms : List Mode) (m : Mode) → among (each mode_number ms) (mode_number m) ≡ false
    → among (each saved_place ms) (saved_place m) ≡ false
saved_differs = place_differs saved_place mode_of_place place_tells

-- ---- a mode's saved word stands at its place, and saving one sets it there

pub saved_at : (m : Mode) (s : Saved) → saved_of (mode_number m) s ≡ get_or (saved_words s) (saved_place m) 0
saved_at Supervisor s = refl
saved_at Abort s = refl
saved_at Undefined s = refl
saved_at Fiq s = refl
saved_at Irq s = refl

pub saved_set : (m : Mode) (s : Saved) (w : ℕ) → saved_words (saved_in m s w) ≡ set (saved_words s) (saved_place m) w
saved_set Supervisor s w = refl
saved_set Abort s w = refl
saved_set Undefined s w = refl
saved_set Fiq s w = refl
saved_set Irq s w = refl
