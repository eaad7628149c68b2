-- FROM AARCH32 NOTHING CHANGES: each rule that goes by the origin is there what it was before request C-23.
-- Assumes nothing.
use mathlib.Core.Path.{◌≡◌, refl, ◌∙◌, sym}
use mathlib.Core.Bool.{Bool, true, false, ◌&&◌, true≢false}
use mathlib.Core.List.{List, [], ◌∷◌}
use Prim.Native.Nat.{ℕ}
use lib.Dec.{T}
use Rattle.bits.specs.Among.{among}
use Rattle.bits.proofs.Among.{Each, among_each, all, among_all}
use Rattle.bits.proofs.Booleans.{not_true_false}
use Rattle.iss.specs.Rule.{condition_rule, extension_rule}
use Rattle.record.specs.Class.{is_class, plain_classes, mcr_classes, mcrr_classes, call_classes, debug_classes}
use Rattle.record.specs.declared.origin.Origin.{Origin}
use Rattle.record.specs.declared.kinds.DataAbort.{DataAbort}
use Rattle.record.specs.declared.kinds.Record.{Record}
use Rattle.rule.specs.Il.{il_rule}
use Rattle.layout_rule.specs.Rule.{condition_from, valid_syndrome_rule, extension_from, data_rule}
use Rattle.rule.specs.Has.{record_class}
use Rattle.address.specs.Page.{far_rule}
use Rattle.registers.specs.declared.Far.{Far}
use Rattle.trap.specs.Base.{base_classes, base_own, base_il, base_valid, base_data, base_far}

-- the classes of the build
pub classes_before : (c : ℕ) → is_class Origin.AArch32 c ≡ among base_classes c
classes_before c = refl

-- of a kind's classes those that AArch32 has are a list's, if they are so one by one, and the list has no other
kept : (ks js : List ℕ) → Each (λ k. is_class Origin.AArch32 k ≡ among js k) ks → T (all (among ks) js) → (n : ℕ)
    → (among ks n && is_class Origin.AArch32 n) ≡ among js n
kept ks js each t n = by (among ks n) refl
  where
    by : (b : Bool) → among ks n ≡ b → (b && is_class Origin.AArch32 n) ≡ among js n
    by true e = among_each ks (λ k. is_class Origin.AArch32 k ≡ among js k) each n e
    by false e = sym (not_true_false (among js n) (λ h. true≢false (sym (among_all js (among ks) t n h) ∙ e)))

-- a class that a record's kind has
pub own_before : (r : Record) → record_class Origin.AArch32 r ≡ base_own r
own_before (Record.Plain r) = kept plain_classes plain_classes (refl, (refl, (refl, tt))) tt r.class
own_before (Record.Wfx r) = refl
own_before (Record.Mcr r) = kept mcr_classes mcr_classes (refl, (refl, (refl, tt))) tt r.class
own_before (Record.Mcrr r) = kept mcrr_classes mcrr_classes (refl, (refl, tt)) tt r.class
own_before (Record.Ldc r) = refl
own_before (Record.Simd r) = refl
own_before (Record.Call r) =
    kept call_classes (0x11 ∷ 0x12 ∷ 0x38 ∷ []) (refl, (refl, (refl, (refl, (refl, (refl, tt)))))) tt r.class
own_before (Record.Smc r) = refl
own_before (Record.InstructionAbort r) = refl
own_before (Record.DataAbort r) = refl
own_before (Record.Debug r) = kept debug_classes debug_classes (refl, (refl, tt)) tt r.class
own_before (Record.Step r) = refl
own_before (Record.Watchpoint r) = refl
own_before (Record.SError r) = refl
own_before (Record.System r) = refl

-- IL
pub il_before : (class : ℕ) (isv il : Bool) → il_rule Origin.AArch32 class isv il ≡ base_il class isv il
il_before class isv il = refl

-- CV and COND
pub condition_before : (cv : Bool) (cond : ℕ) → condition_from Origin.AArch32 cv cond ≡ condition_rule cv cond
condition_before cv cond = refl

-- SF, SAS and SRT with ISV 1; SSE; and with them all that is asked of a data abort
pub valid_before : (r : DataAbort) → valid_syndrome_rule Origin.AArch32 r ≡ base_valid r
valid_before r = refl

pub extension_before : (r : DataAbort) → extension_from Origin.AArch32 r ≡ extension_rule r.sse r.sas r.wnr
extension_before r = refl

pub data_before : (r : DataAbort) → data_rule Origin.AArch32 r ≡ base_data r
data_before r = refl

-- FAR's upper half
pub far_before : (far : Far) → far_rule Origin.AArch32 far ≡ base_far far
far_before far = refl
