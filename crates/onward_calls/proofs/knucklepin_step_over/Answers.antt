-- `onward_calls::knucklepin_step_over` meets its contract: answer and words are those of the call by value.
-- Assumes nothing.
use mathlib.Core.Path.{ap, ap₂, ◌∙◌}
use Rattle.std.specs.Prelude.{⊤}
use Rattle.step.specs.declared.over.Onward.{Onward}
use Rattle.step.specs.Over.{step_number, stepped_over}
use Rattle.state_words.specs.Words.{words_of}
use Rattle.onward_calls.proofs.knucklepin_step_over.Goals as goal

pub returns : goal.returns
returns c =
    let w = c.args.state.now in
    let same =
    c.step_over-over.ensures.answer
    ∙ ap₂ stepped_over c.state_of.ensures c.record_of.ensures in
    record {
      answer = c.number.ensures ∙ ap (λ (x : Onward ⊤). step_number x.answer) same;
      words = c.words_of.ensures ∙ ap (λ (x : Onward ⊤). words_of w x.state) same;
    }
