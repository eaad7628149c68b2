-- `onward_calls::knucklepin_coprocessor_finish` meets its contract: answer, words and values are those of the call by value.
-- Assumes nothing.
use mathlib.Core.Path.{ap, ap₂, ◌∙◌}
use mathlib.Core.List.{[], ◌∷◌}
use Rattle.record.specs.declared.kinds.Record.{Record}
use Rattle.exception.specs.declared.state.Guest.{Guest}
use Rattle.coprocessor.specs.Answer.{transfer_number}
use Rattle.coprocessor.specs.Finish.{finished}
use Rattle.coprocessor.specs.declared.answer.Moved.{Moved}
use Rattle.step.specs.declared.over.Onward.{Onward}
use Rattle.state_words.specs.Words.{words_of}
use Rattle.onward_calls.specs.Calls.{first_in, second_in}
use Rattle.onward_calls.proofs.knucklepin_coprocessor_finish.Goals as goal

pub returns : goal.returns
returns c =
    let a = c.args in
    let w = a.state.now in
    let same =
    c.finish-done.ensures.answer
    ∙ ap₂ (λ (s : Guest) (r : Record). finished s r a.first a.second) c.state_of.ensures
    c.record_of.ensures in
    let first = c.first_in.ensures ∙ ap (λ (x : Onward Moved). first_in x.answer) same in
    let second = c.second_in.ensures ∙ ap (λ (x : Onward Moved). second_in x.answer) same in
    record {
      lent = record {
        answer = c.number.ensures ∙ ap (λ (x : Onward Moved). transfer_number x.answer) same;
        words = c.words_of.ensures ∙ ap (λ (x : Onward Moved). words_of w x.state) same;
      };
      given = λ i. first i ∷ second i ∷ [];
    }
