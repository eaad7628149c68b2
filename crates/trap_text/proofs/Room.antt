-- How long the lines of a trap can be: a line for its registers, and for each edition a line and what is said of the trap there.
-- Assumes nothing.
use mathlib.Core.Bool.{Bool, true, false, cond}
use mathlib.Core.List.{List, [], ◌++◌}
use Prim.Native.Nat.{ℕ, zero, suc, ◌*◌, ◌≤◌}
use native.Mathlib.Omega.{arith}
use lib.ListN.{length, length-append}
use Rattle.registers.specs.declared.Far.{Far}
use Rattle.registers.specs.declared.Hpfar.{Hpfar}
use Rattle.address.specs.declared.IntermediateAddress.{IntermediateAddress}
use Rattle.bits.specs.Field.{bit_of}
use Rattle.edition.specs.Feature.{editions}
use Rattle.explain_text.specs.Trap.{trap_said}
use Rattle.explain_text.proofs.Room.{trap_said_length}
use Rattle.log_text.proofs.Room.{decimal_field_length, hex_field_length, edition_field_length, words_length}
use Rattle.log_text.specs.Lines.{words_text}
use Rattle.registers.specs.declared.Esr.{Esr}
use Rattle.record.specs.declared.origin.Origin.{Origin}
use Rattle.trap.specs.Answer.{answer_of}
use Rattle.trap_refusal.specs.Numbers.{trap_number, trap_mask, trap_count}
use Rattle.trap.specs.Trap.{virtual_in, intermediate_in}
use Rattle.trap_text.specs.Shown.{virtual_text, intermediate_text, answer_text, shown_text, told_text, lines_below}
use Rattle.trap_text.specs.Shown.{trap_text}
use Rattle.trap.specs.declared.Trap.{Trap}
use Rattle.trap_refusal.specs.declared.TrapRefusal.{TrapRefusal}
use Rattle.std.specs.Prelude.{Result, Ok, Err, Option, Some, None}

virtual_length : (a : Option ℕ) → length (virtual_text a) ≤ 32
virtual_length (Some address) = let n = hex_field_length address in simp length-append (omega arith)
virtual_length None = omega arith

intermediate_length : (a : Option IntermediateAddress) → length (intermediate_text a) ≤ 32
intermediate_length None = omega arith
intermediate_length (Some (IntermediateAddress.Page address)) = let n = hex_field_length address in simp length-append (omega arith)
intermediate_length (Some (IntermediateAddress.Byte address)) = let n = hex_field_length address in simp length-append (omega arith)

answer_length : (a : Result Trap TrapRefusal) → length (answer_text a) ≤ 80
answer_length (Ok t) =
    let v = virtual_length (virtual_in t) in
    let i = intermediate_length (intermediate_in t) in
    simp length-append (omega arith)
answer_length (Err r) =
    let n = decimal_field_length (trap_number r) in
    let m = decimal_field_length (trap_mask r) in
    let c = decimal_field_length (trap_count r) in
    simp length-append (omega arith)

shown_length : (edition : ℕ) (esr : Esr) (far : Far) (hpfar : Hpfar) → length (shown_text edition esr far hpfar) ≤ 128
shown_length edition esr far hpfar =
    let n = edition_field_length edition in
    let a = answer_length (answer_of Origin.AArch32 edition esr far hpfar) in
    simp length-append (omega arith)

told_length : (explained : Bool) (edition : ℕ) (esr : Esr) (far : Far) (hpfar : Hpfar)
    → length (told_text explained edition esr far hpfar) ≤ 3760
told_length true edition esr far hpfar =
    rw (length-append (shown_text edition esr far hpfar) (trap_said edition esr far hpfar))
    (omega (arith, shown_length edition esr far hpfar, trap_said_length edition esr far hpfar))
told_length false edition esr far hpfar =
    rw (length-append (shown_text edition esr far hpfar) []) (omega (arith, shown_length edition esr far hpfar))

lines_length : (n mask : ℕ) (line : ℕ → List ℕ) → ((e : ℕ) → length (line e) ≤ 3760) → length (lines_below n mask line) ≤ 3760 * n
unfolding lines_below
lines_length zero mask line h = omega arith
lines_length (suc n) mask line h = go (bit_of mask n) (lines_length n mask line h) (h n)
  where
    go : (t : Bool) → length (lines_below n mask line) ≤ 3760 * n → length (line n) ≤ 3760
        → length (lines_below n mask line ++ cond t (line n) []) ≤ 3760 * suc n
    go true below here = simp length-append (omega arith)
    go false below here = simp length-append (omega arith)

pub trap_length : (mask : ℕ) (explained : Bool) (esr : Esr) (far : Far) (hpfar : Hpfar)
    → length (trap_text mask explained esr far hpfar) ≤ 65536
trap_length mask explained esr far hpfar =
    let w = words_length esr far hpfar in
    let l = lines_length editions mask (λ e. told_text explained e esr far hpfar) (λ e. told_length explained e esr far hpfar) in
    simp (length-append (words_text esr far hpfar)) (omega arith)
