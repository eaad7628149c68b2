-- Demands 2 and 3 beside running code: a word that is read and written again, and a record that one edition wrote and another reads.
use Rattle.std.specs.Prelude.{ℕ, [], ◌∷◌, Result, Ok, Err}
use Rattle.bits.specs.Decide.{needs, decide}
use Rattle.edition.specs.Feature.{editions, is_edition}
use Rattle.edition.specs.Mask.{mask_of, count_below}
use Rattle.edition.specs.declared.Refusal.{Refusal}
use Rattle.form.specs.Form as Form
use Rattle.promise.specs.Promise.{Promise}
use Rattle.record.specs.declared.origin.Origin.{Origin}
use Rattle.registers.specs.declared.Esr.{Esr}
use Rattle.record.specs.declared.kinds.Record.{Record}
use Rattle.rule.specs.Has.{has, editions_of}
use Rattle.syndrome.specs.Form.{long_form}
use Rattle.syndrome.specs.Answer.{as_written, written_said, carried_said}
use Rattle.syndrome.specs.Reading.{has_word, read_list}
use Rattle.syndrome.specs.Writing.{write_list}

module _ (o : Origin) where
  -- DEMAND 2: a word that is taken comes back with the same 64 bits
  unfoldable pub rewritten_of : ℕ → Esr → Result Esr Refusal
  rewritten_of e esr = as_written (Form.again esr.0 (Form.read_as (long_form o) e esr.0))

  -- the number, mask and count are reading's
  abbrev pub Rewriting : ℕ → Esr → Result Esr Refusal → Type 0
  Rewriting e esr =
      Promise written_said (rewritten_of e esr) (decide (read_list o e esr) 0) (mask_of (λ x. has_word o x esr.0))
      (count_below editions (λ x. has_word o x esr.0))

  -- DEMAND 3: what the writer's edition puts out, the reader's gives back as that very record exactly when it has it, and otherwise refusal
  -- 6 (1, where the reader's edition is none)
  unfoldable pub carried_of : ℕ → ℕ → Record → Result (Result Record Refusal) Refusal
  carried_of writer reader r = Form.carried_as Err Ok (long_form o) writer reader r

  -- the number: the writer's tests, then the reader's
  abbrev pub carry_number : ℕ → ℕ → Record → ℕ
  carry_number writer reader r = decide (write_list o writer r) (decide (needs (is_edition reader) 1 ∷ needs (has o reader r) 6 ∷ []) 0)

  abbrev pub Carrying : ℕ → ℕ → Record → Result (Result Record Refusal) Refusal → Type 0
  Carrying writer reader r =
      Promise carried_said (carried_of writer reader r) (carry_number writer reader r) (editions_of o r)
      (count_below editions (λ x. has o x r))
