-- Inner contracts, which nobody has to believe: the same lines, with the word's fields as code reads them (`word_said_lem`, crate record_text).
use Rattle.std.specs.Prelude.{ℕ, false, cond, List, [], ◌++◌, eqb, Result, Ok, Err}
use Rattle.edition.specs.Judge.{refusal_number}
use Rattle.edition.specs.declared.Refusal.{Refusal}
use Rattle.reason.specs.Reason.{why_of}
use Rattle.record_text.specs.Inner.{word_text}
use Rattle.refusal_text.specs.Refusal.{refusal_text}
use Rattle.refusal_text.specs.Why.{why_text}
use Rattle.text.specs.Ascii.{ascii}
use Rattle.trap_refusal.specs.declared.TrapRefusal.{TrapRefusal}
use Rattle.explain_text.specs.Trap.{addresses_text, hpfar_text}
use Rattle.record.specs.declared.kinds.Record.{Record}
use Rattle.trap.specs.declared.Trap.{Trap}

abbrev pub others_lines : ℕ → Refusal → List ℕ
others_lines w refusal =
    cond (eqb (refusal_number refusal) 6) (word_text w) (cond (eqb (refusal_number refusal) 5) (why_text (why_of w)) [])

abbrev pub refused_lines : ℕ → Refusal → List ℕ
refused_lines w refusal = refusal_text false refusal ++ others_lines w refusal

abbrev pub read_lines : ℕ → Result Record Refusal → List ℕ
read_lines w (Ok r) = ascii "taken\n" ++ word_text w
read_lines w (Err refusal) = refused_lines w refusal

abbrev pub refusal_lines : ℕ → ℕ → TrapRefusal → List ℕ
refusal_lines e w (TrapRefusal.Syndrome refusal) = refused_lines w refusal
refusal_lines e w TrapRefusal.Hpfar = hpfar_text e ++ word_text w
refusal_lines e w TrapRefusal.Far = ascii "refused 8: bits 63:32 of FAR are not zero\n" ++ word_text w

abbrev pub answer_lines : ℕ → ℕ → Result Trap TrapRefusal → List ℕ
answer_lines e w (Ok t) = ascii "taken\n" ++ word_text w ++ addresses_text t
answer_lines e w (Err refusal) = refusal_lines e w refusal
