-- Demands 2 and 3 beside running code: a word that is read and written again, and a record that one edition wrote and another reads.
use Rattle.std.specs.Prelude.{ℕ, [], ◌∷◌, Result, Ok, Err}
use Rattle.bits.specs.Decide.{needs, decide}
use Rattle.edition.specs.Mask.{count_below}
use Rattle.edition.specs.declared.Refusal.{Refusal}
use Rattle.short_rule.specs.Edition.{editions, is_edition, mask_of}
use Rattle.form.specs.Form as Form
use Rattle.promise.specs.Promise.{Promise}
use Rattle.registers.specs.declared.Hsr.{Hsr}
use Rattle.short_record.specs.declared.kinds.Record.{Record}
use Rattle.short_rule.specs.Has.{has, editions_of}
use Rattle.short.specs.Form.{short_form}
use Rattle.short.specs.Answer.{as_written, written_said, carried_said}
use Rattle.short.specs.Reading.{has_word, read_list}
use Rattle.short.specs.Writing.{write_list}

-- DEMAND 2: a word that is taken comes back with the same 32 bits
unfoldable pub rewritten_of : ℕ → Hsr → Result Hsr Refusal
rewritten_of e hsr = as_written (Form.again hsr.0 (Form.read_as short_form e hsr.0))

-- the number, mask and count are reading's
abbrev pub Rewriting : ℕ → Hsr → Result Hsr Refusal → Type 0
Rewriting e hsr =
    Promise written_said (rewritten_of e hsr) (decide (read_list e hsr) 0) (mask_of (λ x. has_word x hsr.0))
    (count_below editions (λ x. has_word x hsr.0))

-- DEMAND 3: what the writer's edition puts out, the reader's gives back as that very record exactly when it has it, and otherwise refusal 6
-- (1, where the reader's edition is none)
unfoldable pub carried_of : ℕ → ℕ → Record → Result (Result Record Refusal) Refusal
carried_of writer reader r = Form.carried_as Err Ok short_form writer reader r

-- the number: the writer's tests, then the reader's
abbrev pub carry_number : ℕ → ℕ → Record → ℕ
carry_number writer reader r = decide (write_list writer r) (decide (needs (is_edition reader) 1 ∷ needs (has reader r) 6 ∷ []) 0)

abbrev pub Carrying : ℕ → ℕ → Record → Result (Result Record Refusal) Refusal → Type 0
Carrying writer reader r =
    Promise carried_said (carried_of writer reader r) (carry_number writer reader r) (editions_of r) (count_below editions (λ x. has x r))
