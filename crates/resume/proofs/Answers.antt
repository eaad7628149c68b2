-- Laws of the answer, and of the state beside it, for every state and every correction.
use Rattle.std.specs.Prelude.{Result, Ok, Err}
use mathlib.Core.Path.{◌≡◌, refl, sym, ap}
use mathlib.Core.Bool.{Bool, true, false, cond}
use mathlib.Core.List.{[], ◌∷◌}
use mathlib.Core.Logic.{◌↔◌}
use Prim.Native.Nat.{ℕ}
use lib.Dec.{T, eqb}
use Rattle.bits.specs.Among.{among}
use Rattle.bits.specs.Decide.{decide, FailsWith}
use Rattle.bits.proofs.Arms.{told, absurd_answer}
use Rattle.bits.proofs.Deciding.{all_pass, answer_is}
use Rattle.promise.specs.Promise.{Answers}
use Rattle.promise.proofs.Promises.{by_tests, fails_exactly, promised as answers}
use Rattle.signed.specs.declared.Signed.{Signed}
use Rattle.status.specs.Sound.{sound}
use Rattle.exception.specs.declared.state.Guest.{Guest}
use Rattle.resume.specs.declared.ReturnRefusal.{ReturnRefusal}
use Rattle.resume.specs.declared.ReturnRefusal.TheVariants.{UnsoundStatus, NoSavedStatus, UnsoundSaved}
use Rattle.resume.specs.declared.Resumed.{Resumed}
use Rattle.resume.specs.Answer.{answer_number}
use Rattle.resume.specs.Return.{mode_of, banked, saved_of, restored, back, return_tests, return_numbers, return_answer, resulting}
use Rattle.resume.specs.Return.{returned}
use Rattle.resume.specs.Same.{OnlyMoved}
use Rattle.resume.specs.Promise.{Returning}
use Rattle.resume.specs.Inner.{with_word, judged}

answered : (s : Guest) → Answers answer_number (return_answer s) (return_numbers s) (return_answer s)
unfolding return_answer
answered s = by_tests answer_number (return_tests s) (Ok tt) refl refl refl

-- what the calls promise, by their equation alone
pub promised : (s : Guest) (c : Signed) {r : Resumed} → r ≡ returned s c → Returning s c r
unfolding returned
promised s c e = answers (λ r. answer_number r.answer) (return_numbers s) e (answered s).number

-- EACH NUMBER EXACTLY: 9 comes exactly when one of the three tests fails, and 0 exactly when none does
pub decided : (s : Guest) (k : ℕ) → (answer_number (return_answer s) ≡ k) ↔ FailsWith k (return_numbers s)
decided s = fails_exactly (return_numbers s) (answered s)

-- a return answers 0 or 9
pub number_listed : (s : Guest) → T (among (0 ∷ 9 ∷ []) (decide (return_numbers s) 0))
number_listed s = answer_is (λ n. T (among (0 ∷ 9 ∷ []) n)) (return_numbers s) 0 (tt, (tt, (tt, tt))) tt

-- ---- the answer by its tests, with the state beside it

-- what a state shows that returns
pub record Passes (s : Guest) : Type 0 where
  pub status : sound s.marks s.status ≡ true
  pub mode : banked (mode_of s) ≡ true
  pub saved : sound s.marks (saved_of (mode_of s) s.saved) ≡ true

pub passed : (s : Guest) → Passes s → return_answer s ≡ Ok tt
unfolding return_answer
passed s p = all_pass (return_tests s) (Ok tt) (p.status, (p.mode, (p.saved, tt)))

-- what an answer makes of the state
abbrev pub result : Guest → Signed → Result Unit ReturnRefusal → Resumed
result s c a = record { answer = a; state = resulting a s (back s c) }

pub by_answer : (s : Guest) (c : Signed) {a : Result Unit ReturnRefusal} → return_answer s ≡ a → result s c a ≡ returned s c
unfolding returned
by_answer s c e = told (result s c) e

-- a state that passes returns
pub returns_so : (s : Guest) (c : Signed) → Passes s → returned s c ≡ record { answer = Ok tt; state = back s c }
returns_so s c p = sym (by_answer s c (passed s p))

-- ---- the saved word that a return takes, or its refusal, as the answer and the state beside it

accepted_as : (a : Result Unit ReturnRefusal) (s : Guest) (c : Signed) (word : ℕ) {w : ℕ} → Ok w ≡ with_word word a
    → ◌≡◌ {A = Resumed} record { answer = Ok tt; state = restored s (mode_of s) w c }
    record { answer = a; state = resulting a s (restored s (mode_of s) word c) }
accepted_as (Ok u) s c word {w} e =
    let q : w ≡ word = cc e in ap (λ (x : ℕ). record { answer = Ok tt; state = restored s (mode_of s) x c }) q
accepted_as (Err r) s c word e = absurd_answer (cc e)

refused_as : (a : Result Unit ReturnRefusal) (s after : Guest) (word : ℕ) {r : ReturnRefusal} → Err r ≡ with_word word a
    → ◌≡◌ {A = Resumed} record { answer = Err r; state = s } record { answer = a; state = resulting a s after }
refused_as (Ok u) s after word e = absurd_answer (cc e)
refused_as (Err UnsoundStatus) s after word e = cc
refused_as (Err NoSavedStatus) s after word e = cc
refused_as (Err UnsoundSaved) s after word e = cc

pub took : (s : Guest) (c : Signed) (w : ℕ) → Ok w ≡ judged s
    → Returning s c record { answer = Ok tt; state = restored s (mode_of s) w c }
unfolding returned
took s c w e = promised s c (accepted_as (return_answer s) s c (saved_of (mode_of s) s.saved) e)

pub refused : (s : Guest) (c : Signed) (r : ReturnRefusal) → Err r ≡ judged s → Returning s c record { answer = Err r; state = s }
unfolding returned
refused s c r e = promised s c (refused_as (return_answer s) s (back s c) (saved_of (mode_of s) s.saved) e)

-- ---- what a return changes

-- a refusal gives back the very state
untouched : (a : Result Unit ReturnRefusal) (s after : Guest) → (a ≡ Ok tt → ⊥) → resulting a s after ≡ s
untouched (Ok tt) s after n = absurd (n refl)
untouched (Err UnsoundStatus) s after n = refl
untouched (Err NoSavedStatus) s after n = refl
untouched (Err UnsoundSaved) s after n = refl

pub refused_untouched : (s : Guest) (c : Signed) → (return_answer s ≡ Ok tt → ⊥) → (returned s c).state ≡ s
unfolding returned
refused_untouched s c = untouched (return_answer s) s (back s c)

-- ONLY STATUS WORD AND PC change, whatever is answered
pub only_moved : (s : Guest) (c : Signed) → OnlyMoved (returned s c).state s
unfolding returned restored
only_moved s c = go (eqb (answer_number (return_answer s)) 0)
  where
    go : (b : Bool) → OnlyMoved (cond b (back s c) s) s
    go true = record { regs = refl; saved = refl; faults = refl; sctlr = refl; vbar = refl; ttbcr = refl; marks = refl }
    go false = record { regs = refl; saved = refl; faults = refl; sctlr = refl; vbar = refl; ttbcr = refl; marks = refl }
