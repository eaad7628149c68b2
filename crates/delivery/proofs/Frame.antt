-- What a delivery changes, and when each number comes.
use mathlib.Core.Path.{◌≡◌, refl, sym, ◌∙◌}
use mathlib.Core.Bool.{Bool, true, false, cond}
use mathlib.Core.Logic.{◌↔◌}
use Prim.Native.Nat.{ℕ, ◌+◌}
use Rattle.bits.specs.Decide.{FirstFails}
use Rattle.bits.specs.Field.{bit_of}
use Rattle.bits.proofs.Deciding.{decided_exactly}
use Rattle.std.specs.Prelude.{option_map}
use Rattle.fault.specs.Fault.{status_word, write_bit, domain_in, column, asynchronous_row, code_in, asynchronous_dfsr, status_of, dfsr_of}
use Rattle.exception.specs.declared.state.FaultRegisters.{FaultRegisters}
use Rattle.exception.specs.declared.state.Guest.{Guest}
use Rattle.guest.specs.declared.injection.Access.{Access}
use Rattle.guest.specs.declared.injection.Injection.TheVariants.{DataAbort}
use Rattle.guest.specs.Injection.{injection_row}
use Rattle.pending.specs.declared.Kind.{Kind}
use Rattle.pending.specs.declared.Queue.{Queue}
use Rattle.delivery.specs.declared.Delivered.{Delivered}
use Rattle.delivery.specs.Row.{delivery_row}
use Rattle.delivery.specs.Answer.{answer_number}
use Rattle.delivery.specs.Deliver.{delivery_numbers, faults_after}
use Rattle.delivery.specs.Promise.{Delivering}

-- EACH NUMBER EXACTLY: 9 and 10 come exactly when their test is the first that fails, and 0 exactly when none fails, whatever waits
pub decided : (q : Queue) (s : Guest) (r : Delivered) → Delivering q s r → (k : ℕ)
    → (answer_number r.outcome.answer ≡ k) ↔ FirstFails k (delivery_numbers s)
decided q s r p k = (
  λ e. (decided_exactly (delivery_numbers s) tt k).0 (sym p.number ∙ e),
  λ f. p.number ∙ (decided_exactly (delivery_numbers s) tt k).1 f,
)

-- a virtual abort enters as a data abort does
pub as_a_data_abort : (a : Access) → injection_row (DataAbort a) ≡ delivery_row Kind.Abort
as_a_data_abort a = refl

-- its DFSR: 0x406 in the short format, 0x211 in the long, and no domain would change it
pub asynchronous_words : (domain ttbcr : ℕ) → asynchronous_dfsr domain ttbcr ≡ cond (bit_of ttbcr 31) 0x211 0x406
unfolding dfsr_of status_of
asynchronous_words domain ttbcr = go (bit_of ttbcr 31)
  where
    go : (b : Bool)
        → code_in (option_map (λ w. write_bit false + (domain_in asynchronous_row b domain + w))
        (option_map (λ c. status_word c b) (column asynchronous_row b)))
        ≡ cond b 0x211 0x406
    go true = refl
    go false = refl

-- DFAR, IFSR and IFAR stay, whatever is delivered, and an FIQ or IRQ leaves DFSR too
pub others_stay : (k : Kind) (old : FaultRegisters) (ttbcr : ℕ)
    → ((faults_after k old ttbcr).dfar ≡ old.dfar) × ((faults_after k old ttbcr).ifsr ≡ old.ifsr)
    × ((faults_after k old ttbcr).ifar ≡ old.ifar)
others_stay Kind.Abort old ttbcr = (refl, refl, refl)
others_stay Kind.Fiq old ttbcr = (refl, refl, refl)
others_stay Kind.Irq old ttbcr = (refl, refl, refl)
