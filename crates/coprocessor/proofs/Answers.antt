-- Laws of the answer, and of the state beside it, for every record, values and state.
use mathlib.Core.Path.{◌≡◌, refl, ap, ◌∙◌}
use mathlib.Core.Bool.{Bool, true, false, cond}
use mathlib.Core.List.{[], ◌∷◌}
use mathlib.Core.Logic.{◌↔◌}
use Prim.Native.Nat.{ℕ}
use lib.Dec.{T}
use Rattle.bits.specs.Among.{among}
use Rattle.bits.specs.Decide.{needs, decide, FirstFails}
use Rattle.bits.proofs.Deciding.{decide_relabel, answer_is}
use Rattle.promise.proofs.Promises.{first_exactly, promised as answers}
use Rattle.record.specs.declared.kinds.Mcr.{Mcr}
use Rattle.record.specs.declared.kinds.Mcrr.{Mcrr}
use Rattle.record.specs.declared.kinds.Record.{Record}
use Rattle.status.specs.Sound.{sound}
use Rattle.exception.specs.declared.state.Guest.{Guest}
use Rattle.step.specs.Over.{had}
use Rattle.step.specs.declared.refusal.OnwardRefusal.TheVariants.{NoEdition, UnsoundStatus}
use Rattle.std.specs.Prelude.{Option, Some, None}
use Rattle.coprocessor.specs.declared.transfer.Transfer.{Transfer}
use Rattle.coprocessor.specs.declared.transfer.Transfer.TheVariants.{One, Two}
use Rattle.step.specs.declared.over.Onward.{Onward}
use Rattle.coprocessor.specs.declared.answer.Moved.{Moved}
use Rattle.coprocessor.specs.Answer.{transfer_number}
use Rattle.coprocessor.specs.Finish.{counted_of, is_transfer, transfer_numbers, read_one, wrote_one, read_two, wrote_two, one, two, refusing}
use Rattle.coprocessor.specs.Finish.{by_transfer, finished}
use Rattle.coprocessor.specs.Promise.{TransferPromise}

-- ---- the ways through the tests

module _ (s : Guest) (r : Record) (first second : ℕ) where
  pub no_edition : had r ≡ false → refusing NoEdition s ≡ finished s r first second
  unfolding finished
  no_edition e = rw e

-- ---- the first test that fails gives the number

-- the number of the answer to a coprocessor read or write
abbrev pub number_in : Onward Moved → ℕ
number_in f = transfer_number f.answer

pub one_taken : (s : Guest) (r : Mcr) (value : ℕ) → number_in (one s r value) ≡ 0
unfolding one
one_taken s r value = go r.direction
  where
    go : (b : Bool) → number_in (cond b (read_one s r value) (wrote_one s r)) ≡ 0
    go true = refl
    go false = refl

pub two_taken : (s : Guest) (r : Mcrr) (first second : ℕ) → number_in (two s r first second) ≡ 0
unfolding two
two_taken s r first second = go r.direction
  where
    go : (b : Bool) → number_in (cond b (read_two s r first second) (wrote_two s r)) ≡ 0
    go true = refl
    go false = refl

by_kind_lem : (s : Guest) (t : Option Transfer) (first second : ℕ) → number_in (by_transfer s t first second) ≡ cond (is_transfer t) 0 18
by_kind_lem s (Some (One r)) first second = one_taken s r first
by_kind_lem s (Some (Two r)) first second = two_taken s r first second
by_kind_lem s None first second = refl

pub number_decided : (s : Guest) (r : Record) (first second : ℕ) → number_in (finished s r first second) ≡ decide (transfer_numbers s r) 0
unfolding finished
number_decided s r first second =
    decide_relabel number_in (needs (had r) (refusing NoEdition s) ∷ needs (sound s.marks s.status) (refusing UnsoundStatus s) ∷ [])
    (by_transfer s (counted_of s.status r) first second)
    ∙ ap (λ (n : ℕ). decide (needs (had r) 5 ∷ needs (sound s.marks s.status) 9 ∷ []) n)
    (by_kind_lem s (counted_of s.status r) first second)

-- what the calls promise of the answer and the state, by their equation alone
pub promised : (s : Guest) (r : Record) (first second : ℕ) {f : Onward Moved} → f ≡ finished s r first second
    → TransferPromise s r first second f
promised s r first second e = answers number_in (transfer_numbers s r) e (number_decided s r first second)

-- A REFUSAL gives back the very state
refused_kind : (s : Guest) (t : Option Transfer) (first second : ℕ) → (number_in (by_transfer s t first second) ≡ 0 → ⊥)
    → (by_transfer s t first second).state ≡ s
refused_kind s (Some (One r)) first second n = absurd (n (one_taken s r first))
refused_kind s (Some (Two r)) first second n = absurd (n (two_taken s r first second))
refused_kind s None first second n = refl

pub refused_untouched : (s : Guest) (r : Record) (first second : ℕ) → (number_in (finished s r first second) ≡ 0 → ⊥)
    → (finished s r first second).state ≡ s
unfolding finished
refused_untouched s r first second =
    answer_is (λ (f : Onward Moved). (number_in f ≡ 0 → ⊥) → f.state ≡ s)
    (needs (had r) (refusing NoEdition s) ∷ needs (sound s.marks s.status) (refusing UnsoundStatus s) ∷ [])
    (by_transfer s (counted_of s.status r) first second) (λ n. refl, (λ n. refl, tt))
    (refused_kind s (counted_of s.status r) first second)

-- finishing a coprocessor read or write answers 0, 5, 9 or 18
pub number_listed : (s : Guest) (r : Record) → T (among (0 ∷ 5 ∷ 9 ∷ 18 ∷ []) (decide (transfer_numbers s r) 0))
number_listed s r =
    answer_is (λ n. T (among (0 ∷ 5 ∷ 9 ∷ 18 ∷ []) n)) (transfer_numbers s r) 0 (tt, (tt, (tt, tt))) tt

-- EACH REFUSAL EXACTLY: a number comes exactly when its test is the first that fails, and 0 exactly when none fails
pub decided : (s : Guest) (r : Record) (first second k : ℕ)
    → (number_in (finished s r first second) ≡ k) ↔ FirstFails k (transfer_numbers s r)
decided s r first second = first_exactly (transfer_numbers s r) tt (promised s r first second refl)
