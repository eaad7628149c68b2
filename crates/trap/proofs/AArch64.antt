-- FROM AARCH64, in the words of request C-23: what each rule that goes by the origin is there, and that refusal 8 isn't given.
-- Assumes nothing.
use mathlib.Core.Path.{◌≡◌, refl, ◌∙◌, sym}
use mathlib.Core.Bool.{Bool, true, false, not, ◌&&◌, ◌||◌, true≢false}
use Rattle.std.specs.Prelude.{Result, Ok, Err}
use Rattle.edition.specs.declared.Refusal.{Refusal}
use Rattle.record.specs.declared.kinds.Record.{Record}
use Prim.Native.Nat.{ℕ}
use lib.Dec.{ltb, eqb}
use borrow.Author.Tests.{eqb-true}
use Rattle.iss.specs.Rule.{condition_rule}
use Rattle.bits.specs.Test.{implies}
use Rattle.record.specs.Addresses.{addresses_of}
use Rattle.record.specs.declared.origin.Origin.{Origin}
use Rattle.record.specs.declared.kinds.DataAbort.{DataAbort}
use Rattle.registers.specs.declared.Esr.{Esr}
use Rattle.rule.specs.Il.{il_rule}
use Rattle.layout_rule.specs.Rule.{condition_from, valid_syndrome_rule, extension_from}
use Rattle.address.specs.Known.{far_counts}
use Rattle.registers.specs.declared.Far.{Far}
use Rattle.registers.specs.declared.Hpfar.{Hpfar}
use Rattle.syndrome.specs.Reading.{read_of}
use Rattle.trap.specs.Numbers.{number_answer}
use Rattle.trap.specs.Answer.{of_taken, far_right, answer_of}
use Rattle.trap.proofs.Shown.{trap_refused_exactly}

-- "IL must be 1 in every class"
pub il_everywhere : (class : ℕ) (isv il : Bool) → il_rule Origin.AArch64 class isv il ≡ il
il_everywhere class isv il = refl

-- "CV is 1 and COND 1110"
pub condition_always : (cv : Bool) (cond : ℕ) → condition_from Origin.AArch64 cv cond ≡ (cv && eqb cond 0b1110)
condition_always true cond = by (eqb cond 0b1110) refl
  where
    by : (b : Bool) → eqb cond 0b1110 ≡ b → (b && condition_rule true cond) ≡ b
    by true e = rw (eqb-true cond 0b1110 e)
    by false e = refl
condition_always false cond = refl

-- "SAS may be 3, SF either and SRT anything": with ISV 1 only CM and S1PTW are asked for
pub access_any : (r : DataAbort) → valid_syndrome_rule Origin.AArch64 r ≡ (not r.cm && not r.s1ptw)
access_any r = refl

-- "SSE also goes with SAS 2 where SF is 1"
pub extension_of_words : (r : DataAbort)
    → extension_from Origin.AArch64 r ≡ implies r.sse ((ltb r.sas 2 || r.sf && eqb r.sas 2) && not r.wnr)
extension_of_words r = by r.sse (ltb r.sas 2) (r.sf && eqb r.sas 2) r.wnr
  where
    by : (sse small word wnr : Bool) → (word && not wnr || implies sse (small && not wnr)) ≡ implies sse ((small || word) && not wnr)
    by true true true true = refl
    by true true true false = refl
    by true true false wnr = refl
    by true false true true = refl
    by true false true false = refl
    by true false false wnr = refl
    by false small true true = refl
    by false small true false = refl
    by false small false wnr = refl

-- "FAR's upper half is free there, so refusal 8 isn't given"
far_free : (a : Result Record Refusal) (far : Far) → of_taken (λ r. far_right Origin.AArch64 (addresses_of r) far) a ≡ true
far_free (Ok r) far = by (far_counts (addresses_of r))
  where
    by : (counts : Bool) → (not counts || true) ≡ true
    by true = refl
    by false = refl
far_free (Err refusal) far = refl

pub no_eight : (e : ℕ) (esr : Esr) (far : Far) (hpfar : Hpfar) → number_answer (answer_of Origin.AArch64 e esr far hpfar) ≡ 8 → ⊥
no_eight e esr far hpfar eight =
    let fails = (trap_refused_exactly Origin.AArch64 e esr far hpfar 8).0 eight in
    true≢false (sym (far_free (read_of Origin.AArch64 e esr) far) ∙ fails.1.1.1.1.1.1.1)
