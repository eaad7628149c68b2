-- The starred cases hold: the definitions compute each.
-- Assumes nothing.
use mathlib.Core.Path.{◌≡◌, refl, ◌∙◌, sym, ap, ap₂, subst}
use mathlib.Core.Bool.{Bool, true, false, cond}
use Prim.Native.Nat.{ℕ, ◌+◌, ◌%◌, ◌^◌, ◌<◌}
use lib.Count.{ones}
use lib.Dec.{lit<}
use lib.IntN.{pos}
use lib.ListN.{get_or}
use Rattle.edition.specs.Mask.{mask_of}
use Rattle.edition.specs.Judge.{judge_of}
use Rattle.edition.specs.declared.Refusal.TheVariants.{ShortInstruction, NoEdition, OtherEditions}
use Rattle.form.specs.Call.{call_of}
use Rattle.form.specs.Form as Form
use Rattle.record.specs.Split.{record_of}
use Rattle.record.specs.declared.origin.Origin.{Origin}
use Rattle.rule.specs.Has.{lawful, has}
use Rattle.syndrome.specs.Reading.{read_of}
use Rattle.syndrome.proofs.Everywhere.{taken_everywhere, short_everywhere, none_everywhere}
use Rattle.status.specs.declared.Marks.{Marks}
use Rattle.status.specs.Mode.{is_mode}
use Rattle.status.specs.Base.{unmarked}
use Rattle.status.specs.Sound.{sound}
use Rattle.status.specs.Entry.{t32, entry_status}
use Rattle.status.specs.declared.Mode.TheVariants.{Abort, Undefined}
use Rattle.exception.specs.Vector.{aligned, vector_base}
use Rattle.guest.specs.Injection.{injection_row}
use Rattle.bits.specs.Field.{bit_of}
use Rattle.signed.specs.declared.Signed.{Signed}
use Rattle.signed.specs.declared.Signed.TheVariants.{Plus}
use Rattle.signed.specs.Signed.{signed, sum_of}
use Rattle.exception.specs.Entry.{correction_in, entered}
use Rattle.guest.specs.Inject.{faults_after, guest_after, injected}
use Rattle.guest.specs.declared.injection.Injection.{Injection}
use Rattle.guest.specs.declared.injection.Injection.TheVariants.{UndefinedAt, DataAbort}
use Rattle.guest.specs.declared.injection.Access.{Access}
use Rattle.exception.specs.declared.state.Guest.{Guest}
use Rattle.guest.proofs.Answers.{Passes, accepted_exactly, accepted_state}
use Rattle.exception.proofs.Registers.{link_held}
use Rattle.cases.specs.Case.{Leaves, Whole, Passing, AllHold}
use Rattle.cases.specs.Starred.{starred}

-- an injection that passes leaves what the definition of the new state computes
leaves : (s : Guest) (i : Injection) {status link pc : ℕ} → Passes s i → (guest_after s i).status ≡ status
    → get_or (guest_after s i).regs (injection_row i).link 0 ≡ link → (guest_after s i).pc ≡ pc → Leaves s i status link pc
unfolding injected
leaves s i p new_status new_link new_pc =
    let taken = (accepted_exactly s i).1 p in
    let after = accepted_state s i taken in
    record {
      answer = taken;
      new_status = ap (λ (g : Guest). g.status) after ∙ new_status;
      new_link = ap (λ (g : Guest). get_or g.regs (injection_row i).link 0) after ∙ new_link;
      new_pc = ap (λ (g : Guest). g.pc) after ∙ new_pc;
    }

-- an undefined instruction at PC, by the four registers that its case gives
undefined : (s : Guest) (status pc vbar sctlr : ℕ) → Whole s → sound unmarked status ≡ true → aligned vbar ≡ true
    → s.status ≡ status → s.pc ≡ pc → s.vbar ≡ vbar → s.sctlr ≡ sctlr
    → Leaves s UndefinedAt (entry_status unmarked Undefined false false status sctlr)
    (sum_of pc (signed (correction_in (injection_row UndefinedAt) (t32 status))))
    ((vector_base sctlr vbar + 0x04) % 2 ^ 32)
unfolding entered
undefined s status pc vbar sctlr whole is_sound is-aligned st p v sc =
    leaves s UndefinedAt
    (record {
      status = ap₂ sound whole.marks st ∙ is_sound;
      vbar = ap aligned v
          ∙ is-aligned;
      fault = refl;
      domain = refl;
      address = refl;
    })
    (ap (λ (m : Marks). entry_status m Undefined false false s.status s.sctlr) whole.marks
    ∙ ap₂ (entry_status unmarked Undefined false false) st sc)
    (link_held s (injection_row UndefinedAt) s.faults (subst (λ (n : ℕ). 22 < n) (sym whole.registers) (lit< tt))
    ∙ ap₂ (λ (x y : ℕ). sum_of x (signed (correction_in (injection_row UndefinedAt) (t32 y)))) p st)
    (ap₂ (λ (x y : ℕ). (vector_base x y + 0x04) % 2 ^ 32) sc v)

-- the correction of a data abort is one in both instruction sets
abort_correction : (a : Access) (t : Bool) → correction_in (injection_row (DataAbort a)) t ≡ Plus 8
abort_correction a true = refl
abort_correction a false = refl

-- a data abort of a fault and an address that pass, with high vectors
aborted : (s : Guest) (a : Access) (status sctlr : ℕ) → Passing s a → sound unmarked status ≡ true → bit_of sctlr 13 ≡ true
    → s.status ≡ status → s.sctlr ≡ sctlr → Leaves s (DataAbort a) (entry_status unmarked Abort true false status sctlr)
    (sum_of s.pc (pos 8)) 0xFFFF0010
unfolding entered
aborted s a status sctlr p is_sound high st sc =
    leaves s (DataAbort a)
    (record {
      status = ap₂ sound p.whole.marks st
          ∙ is_sound;
      vbar = p.vbar;
      fault = p.fault;
      domain = p.domain;
      address = p.address;
    })
    (ap (λ (m : Marks). entry_status m Abort true false s.status s.sctlr) p.whole.marks
    ∙ ap₂ (entry_status unmarked Abort true false) st sc)
    (link_held s (injection_row (DataAbort a)) (faults_after (DataAbort a) s.faults s.ttbcr)
    (subst (λ (n : ℕ). 20 < n) (sym p.whole.registers) (lit< tt))
    ∙ ap (λ (c : Signed). sum_of s.pc (signed c)) (abort_correction a (t32 s.status)))
    (ap (λ (b : Bool). (cond b 0xFFFF_0000 s.vbar + 0x10) % 2 ^ 32) (ap (λ (w : ℕ). bit_of w 13) sc ∙ high))

-- THE STARRED CASES, one list with one statement
pub all_hold : AllHold starred
unfolding read_of call_of Form.has_word record_of has lawful mask_of judge_of ones is_mode sound aligned entry_status sum_of
all_hold = (
  λ e h. (_, taken_everywhere Origin.AArch32 (record { 0 = 0x02000000 }) e h refl),
  (
    λ e h. (ShortInstruction, short_everywhere Origin.AArch32 (record { 0 = 0x00000000 }) e h refl refl refl, refl, refl, refl),
    (
      λ e h. taken_everywhere Origin.AArch32 (record { 0 = 0x93830045 }) e h refl,
      (
        λ e h. (_, taken_everywhere Origin.AArch32 (record { 0 = 0x91830005 }) e h refl),
        (
          λ e h. (ShortInstruction, short_everywhere Origin.AArch32 (record { 0 = 0x90000005 }) e h refl refl refl, refl, refl, refl),
          (
            λ e h. (NoEdition, none_everywhere Origin.AArch32 (record { 0 = 0x93830085 }) e h refl refl refl refl, refl, refl, refl),
            (
              (OtherEditions 21845 8, refl, refl, refl, refl),
              (
                (OtherEditions 17476 4, refl, refl, refl, refl),
                (
                  (OtherEditions 61680 8, refl, refl, refl, refl),
                  (
                    (OtherEditions 43690 8, refl, refl, refl, refl),
                    (
                      λ e h. (
                        NoEdition,
                        none_everywhere Origin.AArch32 (record { 0 = 0x92000810 }) e h refl refl refl refl,
                        refl,
                        refl,
                        refl,
                      ),
                      (
                        (OtherEditions 21845 8, refl, refl, refl, refl),
                        (
                          λ s whole st p v sc. undefined s 0x10 0x8000 0x1000 0 whole refl refl st p v sc,
                          (
                            λ s whole st p v sc. undefined s 0x30 0x8000 0x1000 0 whole refl refl st p v sc,
                            (
                              λ s a p st sc. aborted s a 0x10 0x42002000 p refl refl st sc,
                              (
                                λ s a p st sc pc. (aborted s a 0x10 0x42002000 p refl refl st sc).new_link
                                    ∙ ap (λ (n : ℕ). sum_of n (pos 8)) pc,
                                tt,
                              ),
                            ),
                          ),
                        ),
                      ),
                    ),
                  ),
                ),
              ),
            ),
          ),
        ),
      ),
    ),
  ),
)
