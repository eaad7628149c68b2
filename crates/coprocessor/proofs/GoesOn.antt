-- A trapped coprocessor read or write goes on by one call, and never by both: where its condition fails it is stepped over, and else it is
-- finished.
use mathlib.Core.Path.{◌≡◌, sym, ap, ◌∙◌}
use mathlib.Core.Bool.{Bool, true, false, not, cond, ◌||◌, true≢false}
use mathlib.Core.List.{List, [], ◌∷◌}
use Prim.Native.Nat.{ℕ}
use borrow.Author.Tests.{not-true}
use lib.Dec.{T}
use Rattle.bits.specs.Among.{among}
use Rattle.bits.proofs.Among.{all, among_all}
use Rattle.record.specs.Class.{mcr_classes, mcrr_classes}
use Rattle.record.specs.declared.origin.Origin.{Origin}
use Rattle.record.specs.declared.kinds.Record.{Record}
use Rattle.rule.proofs.Having.{has_own}
use Rattle.step.specs.Condition.{passes}
use Rattle.step.specs.Over.{had, is_stepped_over}
use Rattle.step.proofs.Having.{had_some}
use Rattle.std.specs.Prelude.{Option, None}
use Rattle.coprocessor.specs.declared.transfer.Transfer.{Transfer}
use Rattle.coprocessor.specs.Finish.{transfer_of, counted_of, is_transfer}

-- no class of these is one that is always stepped over
other_class : (classes : List ℕ) → T (all (λ n. not (among (0x01 ∷ 0x13 ∷ []) n)) classes) → (n : ℕ) → among classes n ≡ true
    → among (0x01 ∷ 0x13 ∷ []) n ≡ false
other_class classes t n e = not-true (among (0x01 ∷ 0x13 ∷ []) n) (among_all classes (λ k. not (among (0x01 ∷ 0x13 ∷ []) k)) t n e)

by_pass : (t : Option Transfer) {c : Bool} → c ≡ false → is_transfer t ≡ true → (p : Bool)
    → (c || false || not p) ≡ not (is_transfer (cond p t None))
by_pass t c e true = ap (λ (b : Bool). b || false || false) c ∙ sym (ap not e)
by_pass t c e false = ap (λ (b : Bool). b || false || true) c

pub goes_on : (w : ℕ) (r : Record) → had r ≡ true → is_transfer (transfer_of r) ≡ true → is_stepped_over w r ≡ not (is_transfer (counted_of w r))
goes_on w (Record.Plain x) h e = absurd (true≢false (sym e))
goes_on w (Record.Wfx x) h e = absurd (true≢false (sym e))
goes_on w (Record.Mcr x) h e =
    let found = had_some (Record.Mcr x) h in
    by_pass (transfer_of (Record.Mcr x)) (other_class mcr_classes tt x.class
    (has_own Origin.AArch32 found.0 (Record.Mcr x) found.2)) e (passes w (Record.Mcr x))
goes_on w (Record.Mcrr x) h e =
    let found = had_some (Record.Mcrr x) h in
    by_pass (transfer_of (Record.Mcrr x)) (other_class mcrr_classes tt x.class
    (has_own Origin.AArch32 found.0 (Record.Mcrr x) found.2)) e (passes w (Record.Mcrr x))
goes_on w (Record.Ldc x) h e = absurd (true≢false (sym e))
goes_on w (Record.Simd x) h e = absurd (true≢false (sym e))
goes_on w (Record.Call x) h e = absurd (true≢false (sym e))
goes_on w (Record.Smc x) h e = absurd (true≢false (sym e))
goes_on w (Record.InstructionAbort x) h e = absurd (true≢false (sym e))
goes_on w (Record.DataAbort x) h e = absurd (true≢false (sym e))
goes_on w (Record.Debug x) h e = absurd (true≢false (sym e))
goes_on w (Record.Step x) h e = absurd (true≢false (sym e))
goes_on w (Record.Watchpoint x) h e = absurd (true≢false (sym e))
goes_on w (Record.SError x) h e = absurd (true≢false (sym e))
goes_on w (Record.System x) h e = absurd (true≢false (sym e))
