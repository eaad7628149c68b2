-- The answers of `read` and `read_both` carry their numbers, masks and counts.
-- Assumes nothing.
use mathlib.Core.Path.{◌≡◌, refl, ◌∙◌, sym}
use mathlib.Core.Bool.{Bool, true, false}
use mathlib.Core.List.{[], ◌∷◌, ◌++◌}
use Rattle.std.specs.Prelude.{Result, Ok, Err}
use Rattle.edition.specs.declared.Refusal.{Refusal}
use Rattle.trap.specs.declared.Trap.{Trap}
use Prim.Native.Nat.{ℕ}
use native.Mathlib.Omega.{arith}
use Rattle.bits.specs.Decide.{needs, decide}
use Rattle.bits.proofs.Deciding.{decide_relabel, decide_zero, decide_other}
use Rattle.edition.specs.Feature.{editions}
use Rattle.edition.specs.Mask.{mask_of, count_below}
use Rattle.edition.specs.declared.Refusal.TheVariants.{UnknownEdition, UpperHalf, UnknownClass, ShortInstruction, NoEdition, OtherEditions}
use Rattle.promise.specs.Promise.{six_only}
use Rattle.promise.proofs.Promises.{kept}
use Rattle.record.specs.Addresses.{addresses_of}
use Rattle.record.specs.declared.origin.Origin.{Origin}
use Rattle.registers.specs.declared.Esr.{Esr}
use Rattle.record.specs.declared.kinds.Record.{Record}
use Rattle.registers.specs.declared.Far.{Far}
use Rattle.registers.specs.declared.Hpfar.{Hpfar}
use Rattle.syndrome.specs.Reading.{has_word, read_of, read_list, Reading}
use Rattle.syndrome.proofs.Promises.{reads}
use Rattle.trap_refusal.specs.Numbers.{trap_number}
use Rattle.trap.specs.Numbers.{number_answer, mask_answer, count_answer}
use Rattle.trap.specs.Trap.{trap_of}
use Rattle.trap.specs.Answer.{of_taken, hpfar_right, far_right, answer_record, answer_read, answer_of, trap_list, TrapReading}
use Rattle.trap.specs.Both.{both_from, both_of, BothReading}
use Rattle.trap_refusal.specs.declared.TrapRefusal.{TrapRefusal}

module _ (o : Origin) (esr : Esr) where
  -- the mask and the count of an answer, by its number
  abbrev Names : Result Trap TrapRefusal → Type 0
  Names a =
      (mask_answer a ≡ six_only (number_answer a) (mask_of (λ x. has_word o x esr.0)))
      × (count_answer a ≡ six_only (number_answer a) (count_below editions (λ x. has_word o x esr.0)))

  -- 7 and 8 carry none
  record_names : (e : ℕ) (r : Record) (far : Far) (hpfar : Hpfar) → Names (answer_record o e r far hpfar)
  unfolding answer_record
  record_names e r far hpfar = by (hpfar_right e (addresses_of r) hpfar) (far_right o (addresses_of r) far)
    where
      by : (h f : Bool)
          → Names
          (decide (needs h (Err TrapRefusal.Hpfar) ∷ needs f (Err TrapRefusal.Far) ∷ [])
          (Ok (trap_of r far hpfar)))
      by true true = (refl, refl)
      by true false = (refl, refl)
      by false f = (refl, refl)

  module _ (e : ℕ) (far : Far) (hpfar : Hpfar) where
    answer_names : Names (answer_of o e esr far hpfar)
    unfolding answer_of
    answer_names = by (read_of o e esr) (reads o e esr refl)
      where
        by : (a : Result Record Refusal) → Reading o e esr a → Names (answer_read o e a far hpfar)
        by (Ok r) said = record_names e r far hpfar
        by (Err f) said = (said.mask, said.count)

    -- the registers' tests of a record
    record_number : (r : Record)
        → number_answer (answer_record o e r far hpfar)
        ≡ decide (needs (hpfar_right e (addresses_of r) hpfar) 7 ∷ needs (far_right o (addresses_of r) far) 8 ∷ []) 0
    unfolding answer_record
    record_number r =
        decide_relabel number_answer
        (needs (hpfar_right e (addresses_of r) hpfar) (Err TrapRefusal.Hpfar)
        ∷ needs (far_right o (addresses_of r) far) (Err TrapRefusal.Far) ∷ [])
        (Ok (trap_of r far hpfar))

    -- a syndrome that is taken fails none of its tests, and the registers' follow; one that is refused fails one, and the registers' pass
    answer_number_lem : number_answer (answer_of o e esr far hpfar) ≡ decide (trap_list o e esr far hpfar) 0
    unfolding answer_of
    answer_number_lem = by (read_of o e esr) (reads o e esr refl)
      where
        by : (a : Result Record Refusal) → Reading o e esr a
            → number_answer (answer_read o e a far hpfar)
            ≡ decide (read_list o e esr
            ++ (needs (of_taken (λ r. hpfar_right e (addresses_of r) hpfar) a) 7 ∷ needs (of_taken (λ r. far_right o (addresses_of r) far) a) 8
            ∷ [])) 0
        by (Ok r) said = record_number r ∙ sym (decide_zero (read_list o e esr) _ tt (sym said.number))
        by (Err f) said = said.number

    pub shows : {a : Result Trap TrapRefusal} → a ≡ answer_of o e esr far hpfar → TrapReading o e esr far hpfar a
    shows same = kept same record { answer = refl; number = answer_number_lem; mask = answer_names.0; count = answer_names.1 }

-- no refusal has number 0
refused_number : (f : TrapRefusal) → trap_number f ≡ 0 → ⊥
refused_number (TrapRefusal.Syndrome UnknownEdition) z = omega (arith, z)
refused_number (TrapRefusal.Syndrome UpperHalf) z = omega (arith, z)
refused_number (TrapRefusal.Syndrome UnknownClass) z = omega (arith, z)
refused_number (TrapRefusal.Syndrome ShortInstruction) z = omega (arith, z)
refused_number (TrapRefusal.Syndrome NoEdition) z = omega (arith, z)
refused_number (TrapRefusal.Syndrome (OtherEditions mask count)) z = omega (arith, z)
refused_number TrapRefusal.Hpfar z = omega (arith, z)
refused_number TrapRefusal.Far z = omega (arith, z)

module _ (o : Origin) (first second : ℕ) (esr : Esr) (far : Far) (hpfar : Hpfar) where
  -- the first edition's number, or where it is 0 the second's
  both_number : (a b : Result Trap TrapRefusal) → number_answer a ≡ decide (trap_list o first esr far hpfar) 0
      → number_answer b ≡ decide (trap_list o second esr far hpfar) 0
      → number_answer (both_from a b) ≡ decide (trap_list o first esr far hpfar) (decide (trap_list o second esr far hpfar) 0)
  both_number (Ok t) (Ok s) p q = sym
      (decide_zero (trap_list o first esr far hpfar) (decide (trap_list o second esr far hpfar) 0) tt (sym p) ∙ sym q)
  both_number (Ok t) (Err f) p q = sym
      (decide_zero (trap_list o first esr far hpfar) (decide (trap_list o second esr far hpfar) 0) tt (sym p) ∙ sym q)
  both_number (Err f) b p q = p ∙ sym (decide_other (trap_list o first esr far hpfar)
      (decide (trap_list o second esr far hpfar) 0) (λ z. refused_number f (p ∙ z)))

  both_names : (a b : Result Trap TrapRefusal) → TrapReading o first esr far hpfar a → TrapReading o second esr far hpfar b
      → (mask_answer (both_from a b) ≡ six_only (number_answer (both_from a b)) (mask_of (λ x. has_word o x esr.0)))
      × (count_answer (both_from a b) ≡ six_only (number_answer (both_from a b)) (count_below editions (λ x. has_word o x esr.0)))
  both_names (Ok t) (Ok s) p q = (refl, refl)
  both_names (Ok t) (Err f) p q = (q.mask, q.count)
  both_names (Err f) b p q = (p.mask, p.count)

  both : BothReading o first second esr far hpfar (both_of o first second esr far hpfar)
  unfolding both_of
  both =
      let p = shows o esr first far hpfar refl in
      let q = shows o esr second far hpfar refl in
      let names = both_names (answer_of o first esr far hpfar) (answer_of o second esr far hpfar) p q in
      record {
        answer = refl;
        number = both_number (answer_of o first esr far hpfar) (answer_of o second esr far hpfar) p.number q.number;
        mask = names.0;
        count = names.1;
      }

  pub shows_both : {b : Result (Trap × Trap) TrapRefusal} → b ≡ both_of o first second esr far hpfar → BothReading o first second esr far hpfar b
  shows_both same = kept same both
