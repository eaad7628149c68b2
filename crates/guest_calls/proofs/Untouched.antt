-- A refused call leaves all 48 words as they came, whatever they hold.
-- Assumes nothing.
use mathlib.Core.Path.{◌≡◌, ap, ◌∙◌}
use mathlib.Core.List.{List}
use Prim.Native.Nat.{ℕ}
use lib.ListN.{length, get_or}
use Rattle.guest.specs.declared.injection.Injection.{Injection}
use Rattle.guest.specs.Inject.{injected}
use Rattle.guest.specs.Answer as guest
use Rattle.guest.proofs.Answers as injections
use Rattle.pending.specs.Step as plain
use Rattle.pending.proofs.Steps.{unmoved}
use Rattle.delivery.specs.Deliver.{guest_delivery}
use Rattle.resume.specs.Return.{returned}
use Rattle.resume.specs.Answer as resume
use Rattle.resume.proofs.Answers as returns
use Rattle.signed.specs.declared.Signed.{Signed}
use Rattle.state_words.specs.Words.{state_of, words_of}
use Rattle.state_words.proofs.RoundTrip.{words_back, untouched}
use Rattle.pending_words.specs.Number.{waiting_in}
use Rattle.guest_calls.specs.Calls.{Injecting, Returning, Delivering}

pub inject_untouched : (w : List ℕ) (i : Injection) {n : ℕ} {w' : List ℕ} → length w ≡ 48 → Injecting w i n w' → (n ≡ 0 → ⊥) → w' ≡ w
unfolding injected
inject_untouched w i l p never =
    untouched l (injections.refused_untouched (state_of w) i (λ a. never (p.answer ∙ ap guest.answer_number a))) p

pub resume_untouched : (w : List ℕ) (c : ℕ) {n : ℕ} {w' : List ℕ} → length w ≡ 48 → Returning w c n w' → (n ≡ 0 → ⊥) → w' ≡ w
unfolding returned
resume_untouched w c l p never =
    untouched l (returns.refused_untouched (state_of w) (Signed.Plus c) (λ a. never (p.answer ∙ ap resume.answer_number a))) p

pub deliver_untouched : (w p : List ℕ) {n : ℕ} {w' p' : List ℕ} → length w ≡ 48 → Delivering w p n w' p' → (n ≡ 0 → ⊥) → w' ≡ w
deliver_untouched w p l q never =
    q.words
    ∙ ap (words_of w)
    (unmoved guest_delivery (waiting_in (get_or p 0 0)) (state_of w) (λ k e. never (q.answer ∙ ap plain.answer_number e))).1
    ∙ words_back w l
