-- The answer to a question: what is said of its word or its trap, or that the line is none.
use Rattle.std.specs.Prelude.{ℕ, List, Option, Some, None}
use Rattle.explain_text.specs.Word.{word_said}
use Rattle.explain_text.specs.Trap.{trap_said}
use Rattle.short_text.specs.Said.{short_said}
use Rattle.question.specs.declared.Question.{Question}
use Rattle.text.specs.Ascii.{ascii}

abbrev pub answer_text : Option Question → List ℕ
answer_text (Some (Question.Word edition esr)) = word_said edition (record { 0 = esr })
answer_text (Some (Question.Trap edition esr far hpfar)) = trap_said edition (record { 0 = esr }) (record { 0 = far }) (record { 0 = hpfar })
answer_text (Some (Question.Short edition hsr)) = short_said edition (record { 0 = hsr })
answer_text None = ascii "no line\n"
