-- The whole trap's answer in one edition, as a line: the addresses that are known, or the refusal's number, mask and number of ones. And a
-- trap as its lines: its registers, and its answer in each edition of a mask, explained where that is asked for. A log holds traps from
-- AArch32 (02, C-23).
use Rattle.std.specs.Prelude.{ℕ, zero, suc, Bool, cond, List, [], ◌++◌, Result, Ok, Err, Option, Some, None}
use Rattle.bits.specs.Field.{bit_of}
use Rattle.edition.specs.Feature.{editions}
use Rattle.explain_text.specs.Trap.{trap_said}
use Rattle.record.specs.declared.origin.Origin.{Origin}
use Rattle.registers.specs.declared.Esr.{Esr}
use Rattle.text.specs.Ascii.{ascii}
use Rattle.trap_refusal.specs.Numbers.{trap_number, trap_mask, trap_count}
use Rattle.trap.specs.Answer.{answer_of}
use Rattle.trap.specs.Trap.{virtual_in, intermediate_in}
use Rattle.registers.specs.declared.Far.{Far}
use Rattle.registers.specs.declared.Hpfar.{Hpfar}
use Rattle.address.specs.declared.IntermediateAddress.{IntermediateAddress}
use Rattle.trap.specs.declared.Trap.{Trap}
use Rattle.trap_refusal.specs.declared.TrapRefusal.{TrapRefusal}
use Rattle.log_text.specs.Lines.{decimal_field, hex_field, edition_field, words_text}

abbrev pub virtual_text : Option ℕ → List ℕ
virtual_text (Some address) = ascii " virtual" ++ hex_field address
virtual_text None = []

abbrev pub intermediate_text : Option IntermediateAddress → List ℕ
intermediate_text None = []
intermediate_text (Some (IntermediateAddress.Page address)) = ascii " page" ++ hex_field address
intermediate_text (Some (IntermediateAddress.Byte address)) = ascii " byte" ++ hex_field address

abbrev pub taken_text : Trap → List ℕ
taken_text t = ascii " taken" ++ virtual_text (virtual_in t) ++ intermediate_text (intermediate_in t)

abbrev pub refusal_text : TrapRefusal → List ℕ
refusal_text r = ascii " refused" ++ decimal_field (trap_number r) ++ decimal_field (trap_mask r) ++ decimal_field (trap_count r)

abbrev pub answer_text : Result Trap TrapRefusal → List ℕ
answer_text (Ok t) = taken_text t
answer_text (Err r) = refusal_text r

abbrev pub shown_text : ℕ → Esr → Far → Hpfar → List ℕ
shown_text edition esr far hpfar = ascii "in" ++ edition_field edition ++ answer_text (answer_of Origin.AArch32 edition esr far hpfar)
    ++ ascii "\n"

-- the line, and behind it what is said of the trap, where that is asked for
abbrev pub told_text : Bool → ℕ → Esr → Far → Hpfar → List ℕ
told_text explained edition esr far hpfar = shown_text edition esr far hpfar ++ cond explained (trap_said edition esr far hpfar) []

-- the lines of the editions below n that are in a mask, each once and in ascending order
unfoldable pub lines_below : ℕ → ℕ → (ℕ → List ℕ) → List ℕ
lines_below zero mask line = []
lines_below (suc n) mask line = lines_below n mask line ++ cond (bit_of mask n) (line n) []

-- a trap: its registers, and what each edition of a mask makes of it
abbrev pub trap_text : ℕ → Bool → Esr → Far → Hpfar → List ℕ
trap_text mask explained esr far hpfar = words_text esr far hpfar ++ lines_below editions mask (λ e. told_text explained e esr far hpfar)
