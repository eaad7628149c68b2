-- What is said of a word, and of a whole trap, takes no more than 3632 bytes.
-- Assumes nothing.
use mathlib.Core.Path.{refl}
use mathlib.Core.Bool.{Bool, true, false, cond}
use mathlib.Core.List.{List, [], ◌++◌}
use Prim.Native.Nat.{ℕ, ◌+◌, ◌≤◌}
use native.Mathlib.Omega.{arith}
use lib.Dec.{eqb}
use lib.ListN.{length, length-append}
use Rattle.registers.specs.declared.Far.{Far}
use Rattle.registers.specs.declared.Hpfar.{Hpfar}
use Rattle.address.specs.declared.IntermediateAddress.{IntermediateAddress}
use Rattle.bits.specs.Field.{field_of}
use Rattle.edition.specs.Feature.{lpa}
use Rattle.edition.specs.Judge.{refusal_number}
use Rattle.edition.specs.declared.Refusal.{Refusal}
use Rattle.field_text.proofs.Room.{shape_length}
use Rattle.reason.specs.Reason.{why_of}
use Rattle.registers.specs.declared.Esr.{Esr}
use Rattle.record.specs.declared.origin.Origin.{Origin}
use Rattle.record_text.specs.Inner.{word_text}
use Rattle.refusal_text.specs.Refusal.{refusal_text}
use Rattle.refusal_text.specs.Why.{why_text}
use Rattle.refusal_text.proofs.Room.{refusal_length, why_length}
use Rattle.syndrome.specs.Reading.{read_of}
use Rattle.text.specs.Ascii.{ascii}
use Rattle.text.proofs.Numerals.{hex_length}
use Rattle.trap.specs.Answer.{answer_of}
use Rattle.trap.specs.declared.Trap.{Trap}
use Rattle.trap_refusal.specs.declared.TrapRefusal.{TrapRefusal}
use Rattle.explain_text.specs.Word.{word_said}
use Rattle.explain_text.specs.Trap.{virtual_text, intermediate_text, addresses_text, hpfar_text, trap_said}
use Rattle.explain_text.specs.Inner.{others_lines, refused_lines, read_lines, answer_lines}
use Rattle.explain_text.proofs.Said.{read_said_lem, answer_said_lem}
use Rattle.record.specs.declared.kinds.Record.{Record}
use Rattle.std.specs.Prelude.{Result, Ok, Err, Option, Some, None}

-- the fields of a word
word_length : (w : ℕ) → length (word_text w) ≤ 3120
unfolding word_text
word_length w = shape_length (field_of w 31 26) w

-- one text after another
pub joined : (a b : List ℕ) (m n : ℕ) {top : ℕ} → length a ≤ m → length b ≤ n → m + n ≤ top → length (a ++ b) ≤ top
joined a b m n h k s = rw (length-append a b) (omega arith)

pub choice_length : (t u : Bool) (a b : List ℕ) {top : ℕ} → length a ≤ top → length b ≤ top → length (cond t a (cond u b [])) ≤ top
choice_length true u a b h k = h
choice_length false true a b h k = k
choice_length false false a b h k = omega arith

refused_length : (w : ℕ) (refusal : Refusal) → length (refused_lines w refusal) ≤ 3632
refused_length w refusal =
    joined (refusal_text false refusal) (others_lines w refusal) 512 3120 (refusal_length false refusal)
    (choice_length (eqb (refusal_number refusal) 6) (eqb (refusal_number refusal) 5) (word_text w) (why_text (why_of w))
    (word_length w) (omega (arith, why_length (why_of w)))) (omega arith)

taken_length : (w : ℕ) → length (ascii "taken\n" ++ word_text w) ≤ 3126
taken_length w = joined (ascii "taken\n") (word_text w) 6 3120 (omega arith) (word_length w) (omega arith)

read_length : (w : ℕ) (a : Result Record Refusal) → length (read_lines w a) ≤ 3632
read_length w (Ok r) = omega (arith, taken_length w)
read_length w (Err refusal) = omega (arith, refused_length w refusal)

virtual_length : (a : Option ℕ) → length (virtual_text a) ≤ 100
virtual_length (Some address) = simp length-append (omega (arith, hex_length address))
virtual_length None = omega arith

intermediate_length : (a : Option IntermediateAddress) → length (intermediate_text a) ≤ 100
intermediate_length None = omega arith
intermediate_length (Some (IntermediateAddress.Page address)) = simp length-append (omega (arith, hex_length address))
intermediate_length (Some (IntermediateAddress.Byte address)) = simp length-append (omega (arith, hex_length address))

addresses_length : (t : Trap) → length (addresses_text t) ≤ 200
addresses_length (Trap.Abort t) =
    joined (virtual_text t.address) (intermediate_text t.intermediate) 100 100 (virtual_length t.address)
    (intermediate_length t.intermediate) (omega arith)
addresses_length (Trap.Addressed t) =
    joined (virtual_text (Some t.address)) (ascii "no intermediate address: this class has none\n") 100 100
    (virtual_length (Some t.address)) (omega arith) (omega arith)
addresses_length (Trap.Plain r) = omega arith

hpfar_length : (e : ℕ) → length (hpfar_text e) ≤ 100
hpfar_length e = go (lpa e)
  where
    go : (t : Bool)
        → length (cond t (ascii "refused 7: a bit of HPFAR outside 43:4 is set\n")
        (ascii "refused 7: a bit of HPFAR outside 39:4 is set\n"))
        ≤ 100
    go true = omega arith
    go false = omega arith

trap_length : (e w : ℕ) (a : Result Trap TrapRefusal) → length (answer_lines e w a) ≤ 3632
trap_length e w (Ok t) =
    joined (ascii "taken\n" ++ word_text w) (addresses_text t) 3126 200 (taken_length w) (addresses_length t) (omega arith)
trap_length e w (Err (TrapRefusal.Syndrome refusal)) = omega (arith, refused_length w refusal)
trap_length e w (Err TrapRefusal.Hpfar) =
    joined (hpfar_text e) (word_text w) 100 3120 (hpfar_length e) (word_length w) (omega arith)
trap_length e w (Err TrapRefusal.Far) =
    joined (ascii "refused 8: bits 63:32 of FAR are not zero\n") (word_text w) 100 3120 (omega arith) (word_length w) (omega arith)

pub word_said_length : (e : ℕ) (esr : Esr) → length (word_said e esr) ≤ 3632
word_said_length e esr = rw (← read_said_lem e esr _ refl) (read_length esr.0 (read_of Origin.AArch32 e esr))

pub trap_said_length : (e : ℕ) (esr : Esr) (far : Far) (hpfar : Hpfar) → length (trap_said e esr far hpfar) ≤ 3632
trap_said_length e esr far hpfar =
    rw (← answer_said_lem e esr far hpfar _ refl) (trap_length e esr.0 (answer_of Origin.AArch32 e esr far hpfar))
