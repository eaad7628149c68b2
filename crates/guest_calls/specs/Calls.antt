-- What each call answers: the call by value on the state that the lent words hold, by the numbers that were handed in.
use Rattle.std.specs.Prelude.{ℕ, ◌≡◌, cond, List, [], ◌∷◌, eqb, ltb, get_or, unwrap_or}
use Rattle.signed.specs.declared.Signed.{Signed}
use Rattle.signed.specs.Signed.{signed, sum_of}
use Rattle.status.specs.declared.Marks.{Marks}
use Rattle.status.specs.Spsr.{from_spsr, spsr_number, to_spsr}
use Rattle.exception.specs.declared.state.Guest.{Guest}
use Rattle.guest.specs.declared.injection.Injection.{Injection}
use Rattle.guest.specs.Answer.{answer_number}
use Rattle.guest.specs.Inject.{injected}
use Rattle.guest.specs.Injection as injection
use Rattle.pending.specs.declared.Kind.{Kind}
use Rattle.pending.specs.Step.{Answer, refused, nothing, delivered, Step, step_of}
use Rattle.pending.specs.Step as plain
use Rattle.delivery.specs.Deliver.{guest_delivery}
use Rattle.delivery.specs.Row as delivery
use Rattle.resume.specs.Answer as resume
use Rattle.resume.specs.Return.{returned}
use Rattle.state_words.specs.Words.{is_mark, state_of, words_of}
use Rattle.state_words.specs.Lent.{Lent}
use Rattle.pending_words.specs.Number.{kind_number, queue_number, waiting_in}
use Rattle.guest_calls.specs.Asked.{injection_of}

-- ---- the saved word

abbrev pub marks_by : ℕ → ℕ → ℕ → Marks
marks_by pan ssbs dit = record { pan = is_mark pan; ssbs = is_mark ssbs; dit = is_mark dit }

-- no refusal carries a word
pub record SavedWord (pan ssbs dit spsr n word : ℕ) : Type 0 where
  pub answer : n ≡ spsr_number (from_spsr (marks_by pan ssbs dit) spsr)
  pub status : word ≡ unwrap_or (from_spsr (marks_by pan ssbs dit) spsr) 0

pub record WrittenWord (pan ssbs dit status n word : ℕ) : Type 0 where
  pub answer : n ≡ spsr_number (to_spsr (marks_by pan ssbs dit) status)
  pub spsr : word ≡ unwrap_or (to_spsr (marks_by pan ssbs dit) status) 0

-- ---- injections and the return

abbrev pub Injecting : List ℕ → Injection → ℕ → List ℕ → Type 0
Injecting w i = Lent w (answer_number (injected (state_of w) i).answer) (injected (state_of w) i).state

-- the correction is a number modulo 2^32, which counts as positive
abbrev pub Returning : List ℕ → ℕ → ℕ → List ℕ → Type 0
Returning w c = Lent w (resume.answer_number (returned (state_of w) (Signed.Plus c)).answer) (returned (state_of w) (Signed.Plus c)).state

-- a correction modulo 2^32 (`taken_back`, proofs/Corrections.antt: a return takes it back as it takes back the correction itself)
abbrev pub as_word : Signed → ℕ
as_word c = sum_of 0 (signed c)

-- 0 for a number that is no injection's
unfoldable pub injection_correction : Guest → ℕ → ℕ
injection_correction s n = cond (ltb 4 n) 0 (as_word (injection.correction_of s (injection_of n 0 0 0 0 0)))

-- ---- deliveries

-- 0 for a number that is no kind's
unfoldable pub delivery_correction : Guest → ℕ → ℕ
delivery_correction s n =
    cond (eqb n 1) (as_word (delivery.correction_of s Kind.Abort))
    (cond (eqb n 2) (as_word (delivery.correction_of s Kind.Fiq))
    (cond (eqb n 3) (as_word (delivery.correction_of s Kind.Irq)) 0))

-- the kind that a step delivers, 0 where it delivers nothing
abbrev pub delivered_by : Answer → ℕ
delivered_by (refused n) = 0
delivered_by nothing = 0
delivered_by (delivered k) = kind_number k

-- the step of the plain queue on the state that the words hold
abbrev pub step_in : List ℕ → List ℕ → Step Guest
step_in w p = step_of guest_delivery (waiting_in (get_or p 0 0)) (state_of w)

-- `p` is the queue, and what was delivered: what that word holds before the step isn't looked at
pub record Delivering (w p : List ℕ) (n : ℕ) (w' p' : List ℕ) : Type 0 where
  pub answer : n ≡ plain.answer_number (step_in w p).answer
  pub words : w' ≡ words_of w (step_in w p).state
  pub pending : p' ≡ queue_number (step_in w p).waiting ∷ delivered_by (step_in w p).answer ∷ []
