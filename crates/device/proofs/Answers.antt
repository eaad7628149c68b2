-- Laws of the answer, and of the state beside it, for every record, device value and state.
use mathlib.Core.Path.{◌≡◌, refl, ap, ◌∙◌}
use mathlib.Core.Bool.{Bool, true, false, cond, not}
use mathlib.Core.List.{[], ◌∷◌}
use mathlib.Core.Logic.{◌↔◌}
use Prim.Native.Nat.{ℕ}
use lib.Dec.{T, eqb}
use Rattle.bits.specs.Decide.{needs, decide, FirstFails}
use Rattle.bits.proofs.Arms.{told}
use Rattle.bits.proofs.Deciding.{decide_relabel, answer_is}
use Rattle.promise.proofs.Promises.{first_exactly, promised as answers}
use Rattle.record.specs.Class.{is_class, head_of}
use Rattle.record.specs.declared.origin.Origin.{Origin}
use Rattle.record.specs.declared.kinds.DataAbort.{DataAbort}
use Rattle.record.specs.declared.kinds.Record.{Record}
use Rattle.bits.specs.Among.{among}
use Rattle.rule.proofs.Having.{origin_lacks}
use Rattle.status.specs.Sound.{sound}
use Rattle.exception.specs.declared.state.Guest.{Guest}
use Rattle.step.specs.Over.{had}
use Rattle.std.specs.Prelude.{Option, Some, None}
use Rattle.step.specs.declared.over.Onward.{Onward}
use Rattle.device.specs.declared.answer.Moved.{Moved}
use Rattle.step.specs.declared.refusal.OnwardRefusal.TheVariants.{NoEdition, UnsoundStatus}
use Rattle.device.specs.Answer.{access_number, access_list}
use Rattle.device.specs.Finish.{described_of, is_access, access_numbers, stored, loaded, accessed, refusing, by_description, finished}
use Rattle.device.specs.Promise.{FinishPromise}

-- ---- the ways through the tests

module _ (s : Guest) (r : Record) (value : ℕ) where
  pub no_edition : had r ≡ false → refusing NoEdition s ≡ finished s r value
  unfolding finished
  no_edition e = rw e

  -- so a record of a class that only AArch64 has is refused 5
  pub other_origin : is_class Origin.AArch32 (head_of r).class ≡ false → refusing NoEdition s ≡ finished s r value
  other_origin lacking = no_edition (ap (λ (mask : ℕ). not (eqb mask 0)) (origin_lacks Origin.AArch32 r lacking))

  pub settled : had r ≡ true → sound s.marks s.status ≡ true → {d : Option DataAbort} → described_of r ≡ d
      → by_description s d value ≡ finished s r value
  unfolding finished
  settled e d q = rw (e, d) (told (λ (x : Option DataAbort). by_description s x value) q)

-- a data abort with ISV 1 that passes the tests is finished by its description
pub taken : (s : Guest) (r : DataAbort) (value : ℕ) → had (Record.DataAbort r) ≡ true → sound s.marks s.status ≡ true → r.isv ≡ true
    → accessed s r value ≡ finished s (Record.DataAbort r) value
taken s r value h d v = settled s (Record.DataAbort r) value h d (ap (λ (b : Bool). cond b (Some r) None) v)

-- ---- the first test that fails gives the number

-- the number of the answer to an access
abbrev number_in : Onward Moved → ℕ
number_in f = access_number f.answer

pub finished_access : (s : Guest) (r : DataAbort) (value : ℕ) → number_in (accessed s r value) ≡ 0
unfolding accessed
finished_access s r value = go r.wnr
  where
    go : (b : Bool) → number_in (cond b (stored s r) (loaded s r value)) ≡ 0
    go true = refl
    go false = refl

described : (s : Guest) (d : Option DataAbort) (value : ℕ) → number_in (by_description s d value) ≡ cond (is_access d) 0 18
described s (Some r) value = finished_access s r value
described s None value = refl

pub number_decided : (s : Guest) (r : Record) (value : ℕ) → number_in (finished s r value) ≡ decide (access_numbers s r) 0
unfolding finished
number_decided s r value =
    decide_relabel number_in (needs (had r) (refusing NoEdition s) ∷ needs (sound s.marks s.status) (refusing UnsoundStatus s) ∷ [])
    (by_description s (described_of r) value)
    ∙ ap (λ (n : ℕ). decide (needs (had r) 5 ∷ needs (sound s.marks s.status) 9 ∷ []) n) (described s (described_of r) value)

-- what the calls promise of the answer and the state, by their equation alone
pub promised : (s : Guest) (r : Record) (value : ℕ) {f : Onward Moved} → f ≡ finished s r value → FinishPromise s r value f
promised s r value e = answers number_in (access_numbers s r) e (number_decided s r value)

-- A REFUSAL gives back the very state
refused_description : (s : Guest) (d : Option DataAbort) (value : ℕ) → (number_in (by_description s d value) ≡ 0 → ⊥)
    → (by_description s d value).state ≡ s
refused_description s (Some r) value n = absurd (n (finished_access s r value))
refused_description s None value n = refl

pub refused_untouched : (s : Guest) (r : Record) (value : ℕ) → (number_in (finished s r value) ≡ 0 → ⊥) → (finished s r value).state ≡ s
unfolding finished
refused_untouched s r value =
    answer_is (λ (f : Onward Moved). (number_in f ≡ 0 → ⊥) → f.state ≡ s)
    (needs (had r) (refusing NoEdition s) ∷ needs (sound s.marks s.status) (refusing UnsoundStatus s) ∷ [])
    (by_description s (described_of r) value) (λ n. refl, (λ n. refl, tt)) (refused_description s (described_of r) value)

-- finishing an access answers 0, 5, 9 or 18
pub number_listed : (s : Guest) (r : Record) → T (among access_list (decide (access_numbers s r) 0))
number_listed s r = answer_is (λ n. T (among access_list n)) (access_numbers s r) 0 (tt, (tt, (tt, tt))) tt

-- EACH REFUSAL EXACTLY: a number comes exactly when its test is the first that fails, and 0 exactly when none fails
pub decided : (s : Guest) (r : Record) (value k : ℕ) → (number_in (finished s r value) ≡ k) ↔ FirstFails k (access_numbers s r)
decided s r value = first_exactly (access_numbers s r) tt (promised s r value refl)
