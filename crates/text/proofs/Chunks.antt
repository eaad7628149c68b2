-- An input in chunks: two chunks, one after the other, are one, and a chunk is read byte by byte.
-- Assumes nothing.
use mathlib.Core.Path.{◌≡◌, refl, sym, ◌∙◌}
use mathlib.Core.Bool.{Bool, true, false, cond}
use mathlib.Core.List.{List, [], ◌∷◌, ◌++◌, append_assoc}
use Prim.Native.Nat.{ℕ, ◌+◌, ◌≤◌, ◌<◌}
use Prim.Native.Char.{code}
use native.Mathlib.Numerals.{add-one}
use native.Mathlib.Omega.{arith}
use borrow.Author.Tests.{eq-eqb, ne_eqb}
use lib.Dec.{eqb}
use lib.ListN.{length, drop, get_or}
use lib.Seq.{drop-cons, drop-length}
use Rattle.text.specs.Append.{Extends}
use Rattle.text.specs.declared.Text.{Text}
use Rattle.text.specs.Lines.{state_after, chunk_text}
use Rattle.text.proofs.Appending.{extends_none, extends_both}

module _ {S : Type 0} (start : S) (feed : S → ℕ → S) (answer : S → List ℕ) where
  abbrev after : S → List ℕ → S
  after = state_after start feed

  abbrev text : S → List ℕ → List ℕ
  text = chunk_text start feed answer

  pub state_both : (s : S) (a b : List ℕ) → after s (a ++ b) ≡ after (after s a) b
  state_both s [] b = refl
  state_both s (byte ∷ a) b = go (eqb byte (code "\n")) (state_both start a b) (state_both (feed s byte) a b)
    where
      go : (t : Bool) → after start (a ++ b) ≡ after (after start a) b → after (feed s byte) (a ++ b) ≡ after (after (feed s byte) a) b
          → cond t (after start (a ++ b)) (after (feed s byte) (a ++ b)) ≡ after (cond t (after start a) (after (feed s byte) a)) b
      go true new on = new
      go false new on = on

  pub text_both : (s : S) (a b : List ℕ) → text s (a ++ b) ≡ text s a ++ text (after s a) b
  text_both s [] b = refl
  text_both s (byte ∷ a) b = go (eqb byte (code "\n")) (text_both start a b) (text_both (feed s byte) a b)
    where
      go : (t : Bool) → text start (a ++ b) ≡ text start a ++ text (after start a) b
          → text (feed s byte) (a ++ b) ≡ text (feed s byte) a ++ text (after (feed s byte) a) b
          → cond t (answer s ++ text start (a ++ b)) (text (feed s byte) (a ++ b))
          ≡ cond t (answer s ++ text start a) (text (feed s byte) a) ++ text (cond t (after start a) (after (feed s byte) a)) b
      go true new on = rw new (sym (append_assoc (answer s) (text start a) (text (after start a) b)))
      go false new on = on

  -- a chunk that has been read up to its byte i: whatever the rest gives after the text so far gives what the whole chunk gives
  pub record Reading (chunk : List ℕ) (s₀ : S) (t₀ : Text) (s : S) (t : Text) (i : ℕ) : Type 0 where
    pub within : i ≤ length chunk
    pub state : after s (drop i chunk) ≡ after s₀ chunk
    pub told : (all : Text) → Extends (text s (drop i chunk)) t all → Extends (text s₀ chunk) t₀ all

  pub begun : (chunk : List ℕ) (s : S) (t : Text) → Reading chunk s t s t 0
  begun chunk s t = record { within = omega arith; state = refl; told = λ all e. e }

  module _ {chunk : List ℕ} {s₀ s : S} {t₀ t : Text} {i : ℕ} (r : Reading chunk s₀ t₀ s t i) where
    -- a newline ends the line, and any other byte goes on with it
    pub line_ended : {t' : Text} → i < length chunk → get_or chunk i 0 ≡ code "\n" → Extends (answer s) t t'
        → Reading chunk s₀ t₀ start t' (i + 1)
    line_ended more n a =
        let e = eq-eqb (get_or chunk i 0) (code "\n") n in
        let state : after s (drop i chunk) ≡ after start (drop (i + 1) chunk) = rw (add-one i, drop-cons chunk i 0) (simp e) in
        let answers : text s (drop i chunk) ≡ answer s ++ text start (drop (i + 1) chunk) = rw (add-one i, drop-cons chunk i 0) (simp e) in
        record {
          within = omega arith;
          state = sym state ∙ r.state;
          told = λ all b. r.told all (rw answers (extends_both a b));
        }

    pub line_on : i < length chunk → (get_or chunk i 0 ≡ code "\n" → ⊥) → Reading chunk s₀ t₀ (feed s (get_or chunk i 0)) t (i + 1)
    line_on more n =
        let e = ne_eqb (get_or chunk i 0) (code "\n") n in
        let state : after s (drop i chunk) ≡ after (feed s (get_or chunk i 0)) (drop (i + 1) chunk) =
        rw (add-one i, drop-cons chunk i 0) (simp e) in
        let answers : text s (drop i chunk) ≡ text (feed s (get_or chunk i 0)) (drop (i + 1) chunk) =
        rw (add-one i, drop-cons chunk i 0) (simp e) in
        record {
          within = omega arith;
          state = sym state ∙ r.state;
          told = λ all b. r.told all (rw answers b);
        }

    pub state_read : length chunk ≤ i → s ≡ after s₀ chunk
    state_read h =
        let past : length chunk ≡ i = omega arith in
        rw (← past, drop-length) at r.state

    pub text_read : length chunk ≤ i → Extends (text s₀ chunk) t₀ t
    text_read h =
        let past : length chunk ≡ i = omega arith in
        r.told t (rw (← past, drop-length) (extends_none t))
