-- Answers of code that stand for a call's answers: each answer is shown by one value, and what that value means is the answer.
-- Assumes nothing.
use mathlib.Core.Path.{◌≡◌, refl, ◌∙◌, sym, ap}
use Prim.Native.Nat.{ℕ}
use Rattle.std.specs.Prelude.{Result, Ok, Err}
use Rattle.edition.specs.declared.Refusal.{Refusal}
use Rattle.form.specs.Form.{Form, again, read_back, carried_from}

-- each answer of a call is shown by one value of code, and what that value means is the answer
pub record Shows {A X : Type 0} (shown : Result A Refusal → X) (means : X → Result A Refusal) : Type 0 where
  pub same : (a : Result A Refusal) → means (shown a) ≡ a

-- an answer of code that is the call's answer shows itself
pub own_shows : {A : Type 0} → Shows {A = A} (λ a. a) (λ a. a)
own_shows = record { same = λ a. refl }

-- two answers that are shown alike are one
pub shown_alike : {A X : Type 0} {shown : Result A Refusal → X} {means : X → Result A Refusal} → Shows shown means
    → (a b : Result A Refusal) → shown a ≡ shown b → a ≡ b
shown_alike {A} {X} {shown} {means} s a b e = sym (s.same a) ∙ ap means e ∙ s.same b

-- a word that is rewritten, by the answer that shows what reading answered
module _ {R X Y : Type 0} {shown : Result R Refusal → X} {means : X → Result R Refusal} (reads : Shows shown means)
    (put : Result ℕ Refusal → Y) (w : ℕ) (a : Result R Refusal) where
  pub again_given : (r : R) → shown a ≡ shown (Ok r) → put (again w a) ≡ put (Ok w)
  again_given r took = ap (λ (b : Result R Refusal). put (again w b)) (shown_alike reads a (Ok r) took)

  pub again_refused : (refusal : Refusal) → shown a ≡ shown (Err refusal) → put (again w a) ≡ put (Err refusal)
  again_refused refusal t = ap (λ (b : Result R Refusal). put (again w b)) (shown_alike reads a (Err refusal) t)

-- a record that is carried, by the answer that shows what writing answered
module _ {R X Y : Type 0} {put : Result ℕ Refusal → Y} {told : Y → Result ℕ Refusal} (writes : Shows put told) (unwritten : Refusal → X)
    (read : Result R Refusal → X) (f : Form R) (reader : ℕ) (r : R) (a : Result ℕ Refusal) where
  pub carried_given : (w : ℕ) → put a ≡ put (Ok w) → carried_from unwritten read f reader r a ≡ read (read_back f reader r)
  carried_given w out = ap (carried_from unwritten read f reader r) (shown_alike writes a (Ok w) out)

  pub carried_refused : (refusal : Refusal) → put a ≡ put (Err refusal) → carried_from unwritten read f reader r a ≡ unwritten refusal
  carried_refused refusal t = ap (carried_from unwritten read f reader r) (shown_alike writes a (Err refusal) t)
