-- Laws of the answer, and of the state beside it, for every state, word and values.
use mathlib.Core.Path.{◌≡◌, refl, sym, ap, ◌∙◌}
use mathlib.Core.Bool.{Bool, true, false, cond}
use mathlib.Core.List.{List, [], ◌∷◌}
use mathlib.Core.Logic.{◌↔◌}
use Rattle.std.specs.Prelude.{Result, Ok, Err}
use Prim.Native.Nat.{ℕ}
use lib.Dec.{T}
use Rattle.bits.specs.Among.{among}
use Rattle.bits.specs.Decide.{decide, FailsWith}
use Rattle.bits.proofs.Deciding.{answer_is}
use Rattle.promise.proofs.Promises.{fails_exactly, promised as answers}
use Rattle.exception.specs.declared.state.Guest.{Guest}
use Rattle.a32_access.specs.Transferred.{registers_of, padded}
use Rattle.a32_access.specs.declared.access.Access.{Access}
use Rattle.a32_transfer.specs.Shape.{shape_of}
use Rattle.a32.specs.declared.instruction.InstructionRefusal.{InstructionRefusal}
use Rattle.a32.specs.declared.instruction.InstructionRefusal.TheVariants.{UnsoundStatus, T32State, NoForm}
use Rattle.a32.specs.Promise.{answer_number, describe_numbers, described_answer}
use Rattle.a32.proofs.Describing.{answered}
use Rattle.a32_finish.specs.declared.answer.Finished.{Finished}
use Rattle.a32_finish.specs.Answer.{finish_number}
use Rattle.a32_finish.specs.Finish.{to_load, to_store, performed, finished_by, finished}
use Rattle.a32_finish.specs.Promise.{AccessPromise}

-- what was described is what is finished
pub settled : (s : Guest) (w : ℕ) (values : List ℕ) {d : Result Access InstructionRefusal} → described_answer s w ≡ d
    → finished_by s d values ≡ finished s w values
unfolding finished
settled s w values e = sym (ap (λ (d : Result Access InstructionRefusal). finished_by s d values) e)

-- ---- the first test that fails gives the number, which is that of describing the word

-- the number of the answer to an A32 load or store
abbrev pub number_in : Finished → ℕ
number_in f = finish_number f.outcome.answer

performed_number : (s : Guest) (a : Access) (numbers values : List ℕ) → number_in (performed s a numbers values) ≡ 0
unfolding performed
performed_number s a numbers values = go (shape_of a.fields).load
  where
    go : (b : Bool) → number_in (cond b (to_load s a (shape_of a.fields) numbers values) (to_store s a (shape_of a.fields) numbers)) ≡ 0
    go true = refl
    go false = refl

number_described : (s : Guest) (d : Result Access InstructionRefusal) (values : List ℕ) → number_in (finished_by s d values) ≡ answer_number d
number_described s (Ok a) values = performed_number s a (padded 16 (registers_of a.fields)) values
number_described s (Err UnsoundStatus) values = refl
number_described s (Err T32State) values = refl
number_described s (Err NoForm) values = refl

pub number_decided : (s : Guest) (w : ℕ) (values : List ℕ) → number_in (finished s w values) ≡ decide (describe_numbers s w) 0
unfolding finished
number_decided s w values = number_described s (described_answer s w) values ∙ (answered s w refl).number

-- what the calls promise of the answer and the state, by their equation alone
pub promised : (s : Guest) (w : ℕ) (values : List ℕ) {f : Finished} → f ≡ finished s w values → AccessPromise s w values f
promised s w values e = answers number_in (describe_numbers s w) e (number_decided s w values)

-- A REFUSAL gives back the very state
refused_description : (s : Guest) (d : Result Access InstructionRefusal) (values : List ℕ) → (number_in (finished_by s d values) ≡ 0 → ⊥)
    → (finished_by s d values).state ≡ s
refused_description s (Ok a) values n = absurd (n (performed_number s a (padded 16 (registers_of a.fields)) values))
refused_description s (Err refusal) values n = refl

pub refused_untouched : (s : Guest) (w : ℕ) (values : List ℕ) → (number_in (finished s w values) ≡ 0 → ⊥) → (finished s w values).state ≡ s
unfolding finished
refused_untouched s w values = refused_description s (described_answer s w) values

-- finishing a described load or store answers 0, 9 or 19
pub number_listed : (s : Guest) (w : ℕ) → T (among (0 ∷ 9 ∷ 19 ∷ []) (decide (describe_numbers s w) 0))
number_listed s w = answer_is (λ n. T (among (0 ∷ 9 ∷ 19 ∷ []) n)) (describe_numbers s w) 0 (tt, (tt, (tt, tt))) tt

-- EACH NUMBER EXACTLY: 9, then 19 in T32 state, then 19 for the word, and 0 where none fails
pub decided : (s : Guest) (w : ℕ) (values : List ℕ) (k : ℕ) → (number_in (finished s w values) ≡ k) ↔ FailsWith k (describe_numbers s w)
decided s w values = fails_exactly (describe_numbers s w) (promised s w values refl)
