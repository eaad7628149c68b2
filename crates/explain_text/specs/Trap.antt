-- WHAT IS SAID OF A WHOLE TRAP in an edition, from AArch32: what is said of its syndrome, and then the addresses that are known, with the
-- registers that they are from, and of the others why they are not; or the register that refuses it, and the lines of its syndrome's record,
-- which was taken.
use Rattle.std.specs.Prelude.{ℕ, cond, List, ◌++◌, Result, Ok, Err, Option, Some, None}
use Rattle.registers.specs.declared.Far.{Far}
use Rattle.registers.specs.declared.Hpfar.{Hpfar}
use Rattle.address.specs.declared.IntermediateAddress.{IntermediateAddress}
use Rattle.edition.specs.Feature.{lpa}
use Rattle.record.specs.Split.{record_at}
use Rattle.record.specs.declared.origin.Origin.{Origin}
use Rattle.registers.specs.declared.Esr.{Esr}
use Rattle.record_text.specs.Text.{record_text}
use Rattle.text.specs.Ascii.{ascii}
use Rattle.text.specs.Numeral.{hex_text}
use Rattle.trap.specs.Answer.{answer_of}
use Rattle.trap.specs.Trap.{record_in}
use Rattle.trap.specs.declared.Trap.{Trap}
use Rattle.trap_refusal.specs.declared.TrapRefusal.{TrapRefusal}
use Rattle.explain_text.specs.Word.{refused_text}

abbrev pub virtual_text : Option ℕ → List ℕ
virtual_text (Some address) = ascii "virtual address 0x" ++ hex_text address ++ ascii ": FAR\n"
virtual_text None = ascii "virtual address not known: FnV is 1, and FAR holds an UNKNOWN value\n"

abbrev pub intermediate_text : Option IntermediateAddress → List ℕ
intermediate_text None = ascii "intermediate address not known: this code, with this S1PTW, leaves HPFAR UNKNOWN\n"
intermediate_text (Some (IntermediateAddress.Page address)) =
    ascii "intermediate address 0x" ++ hex_text address ++ ascii ": the page in HPFAR alone, since S1PTW is 1\n"
intermediate_text (Some (IntermediateAddress.Byte address)) =
    ascii "intermediate address 0x" ++ hex_text address ++ ascii ": the page in HPFAR with FAR 11:0\n"

abbrev pub addresses_text : Trap → List ℕ
addresses_text (Trap.Abort t) = virtual_text t.address ++ intermediate_text t.intermediate
addresses_text (Trap.Addressed t) =
    virtual_text (Some t.address) ++ ascii "no intermediate address: this class has none\n"
addresses_text (Trap.Plain r) = ascii "no address: this class has none\n"

-- the page field of HPFAR is 43:4 with LPA, else 39:4
abbrev pub hpfar_text : ℕ → List ℕ
hpfar_text e = cond (lpa e) (ascii "refused 7: a bit of HPFAR outside 43:4 is set\n")
    (ascii "refused 7: a bit of HPFAR outside 39:4 is set\n")

abbrev pub trap_refused : ℕ → ℕ → TrapRefusal → List ℕ
trap_refused e w (TrapRefusal.Syndrome refusal) = refused_text w refusal
trap_refused e w TrapRefusal.Hpfar = hpfar_text e ++ record_text (record_at w)
trap_refused e w TrapRefusal.Far = ascii "refused 8: bits 63:32 of FAR are not zero\n" ++ record_text (record_at w)

abbrev pub answer_text : ℕ → ℕ → Result Trap TrapRefusal → List ℕ
answer_text e w (Ok t) = ascii "taken\n" ++ record_text (record_in t) ++ addresses_text t
answer_text e w (Err refusal) = trap_refused e w refusal

abbrev pub trap_said : ℕ → Esr → Far → Hpfar → List ℕ
trap_said e esr far hpfar = answer_text e esr.0 (answer_of Origin.AArch32 e esr far hpfar)
