-- Injections and deliveries as exceptions over rows.
use mathlib.Core.Path.{◌≡◌, refl}
use mathlib.Core.Bool.{true}
use mathlib.Core.List.{List, [], ◌∷◌}
use Prim.Native.Nat.{ℕ}
use lib.ListN.{set}
use borrow.Author.Tests.{eqb-true}
use Rattle.bits.specs.Decide.{decide}
use Rattle.bits.proofs.Deciding.{decided_exactly}
use Rattle.fault.specs.Fault.{ifsr_word, dfsr_word, code_in, asynchronous_dfsr}
use Rattle.status.specs.Sound.{sound}
use Rattle.exception.specs.declared.state.FaultRegisters.{FaultRegisters}
use Rattle.exception.specs.declared.state.Guest.{Guest}
use Rattle.guest.specs.declared.injection.Injection.{Injection}
use Rattle.guest.specs.declared.injection.Injection.TheVariants.{UndefinedAt, UndefinedAfter, SupervisorCall, PrefetchAbort, DataAbort}
use Rattle.guest.specs.Injection.{injection_row}
use Rattle.guest.specs.Inject as injection
use Rattle.guest.proofs.Answers.{accepted_exactly, accepted_state}
use Rattle.pending.specs.declared.Kind.{Kind}
use Rattle.pending.proofs.Steps.{delivering_injects}
use Rattle.delivery.specs.Row.{delivery_row}
use Rattle.delivery.specs.Deliver.{delivery_numbers, guest_delivery}
use Rattle.delivery.specs.Deliver as delivery
use Rattle.resume.specs.Same.{EqualBut, fault_words, link_place}
use Rattle.resume.specs.Nest.{Proper, AllProper, taken, correction_at}
use Rattle.resume.proofs.Sames.{equal_refl, equal_trans, one_set}
use Rattle.nest.specs.Entry.{Entry, injecting, delivering, injection_writes, delivery_writes, exception_of, TakenIn, after, correction_of}
use Rattle.nest.specs.Nest.{exceptions}

-- ---- each row has its mode's link register, and the fault registers that an exception doesn't write stay

injection_link : (i : Injection) → (injection_row i).link ≡ link_place (injection_row i).mode
injection_link UndefinedAt = refl
injection_link UndefinedAfter = refl
injection_link SupervisorCall = refl
injection_link (PrefetchAbort f) = refl
injection_link (DataAbort a) = refl

delivery_link : (k : Kind) → (delivery_row k).link ≡ link_place (delivery_row k).mode
delivery_link Kind.Abort = refl
delivery_link Kind.Fiq = refl
delivery_link Kind.Irq = refl

-- two words set, at two places
two_set : (l : List ℕ) (j k v w : ℕ) → EqualBut (j ∷ k ∷ []) (set (set l j v) k w) l
two_set l j k v w = equal_trans (j ∷ []) (k ∷ []) (one_set (set l j v) k w) (one_set l j v)

injection_faults : (i : Injection) (old : FaultRegisters) (ttbcr : ℕ)
    → EqualBut (injection_writes i) (fault_words (injection.faults_after i old ttbcr)) (fault_words old)
injection_faults UndefinedAt old ttbcr = equal_refl [] (fault_words old)
injection_faults UndefinedAfter old ttbcr = equal_refl [] (fault_words old)
injection_faults SupervisorCall old ttbcr = equal_refl [] (fault_words old)
injection_faults (PrefetchAbort f) old ttbcr = two_set (fault_words old) 1 3 (code_in (ifsr_word f.fault ttbcr)) f.address
injection_faults (DataAbort a) old ttbcr = two_set (fault_words old) 0 2 (code_in (dfsr_word a.fault a.write a.domain ttbcr))
    a.address

delivery_faults : (k : Kind) (old : FaultRegisters) (ttbcr : ℕ)
    → EqualBut (delivery_writes k) (fault_words (delivery.faults_after k old ttbcr)) (fault_words old)
delivery_faults Kind.Abort old ttbcr = one_set (fault_words old) 0 (asynchronous_dfsr 0 ttbcr)
delivery_faults Kind.Fiq old ttbcr = equal_refl [] (fault_words old)
delivery_faults Kind.Irq old ttbcr = equal_refl [] (fault_words old)

pub proper : (e : Entry) → Proper (exception_of e)
proper (injecting i) = record { link = injection_link i; faults = λ s. injection_faults i s.faults s.ttbcr }
proper (delivering l k) = record { link = delivery_link k; faults = λ s. delivery_faults k s.faults s.ttbcr }

pub all_proper : (es : List Entry) → AllProper (exceptions es)
all_proper [] = tt
all_proper (e ∷ es) = (proper e, all_proper es)

-- ---- one that is taken finds a sound state, and leaves the state of its row

pub taken_sound : (s : Guest) (e : Entry) → TakenIn s e → sound s.marks s.status ≡ true
unfolding guest_delivery
taken_sound s (injecting i) t = ((accepted_exactly s i).0 t).status
taken_sound s (delivering l k) t =
    ((decided_exactly (delivery_numbers s) tt 0).0 (eqb-true (decide (delivery_numbers s) 0) 0 (delivering_injects guest_delivery k l s t).0)).0

pub taken_leaves : (s : Guest) (e : Entry) → TakenIn s e → after s e ≡ taken s (exception_of e)
unfolding guest_delivery
taken_leaves s (injecting i) t = accepted_state s i t
taken_leaves s (delivering l k) t = (delivering_injects guest_delivery k l s t).1

-- its correction is its row's, for the instruction set of the state
pub same_correction : (s : Guest) (e : Entry) → correction_of s e ≡ correction_at s (exception_of e)
same_correction s (injecting i) = refl
same_correction s (delivering l k) = refl
