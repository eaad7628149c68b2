-- `onward_calls::knucklepin_finish` meets its contract: answer, words and value are those of the call by value.
-- Assumes nothing.
use mathlib.Core.Path.{ap, ap₂, ◌∙◌}
use Rattle.record.specs.declared.kinds.Record.{Record}
use Rattle.exception.specs.declared.state.Guest.{Guest}
use Rattle.device.specs.Answer.{access_number}
use Rattle.device.specs.Finish.{finished}
use Rattle.device.specs.declared.answer.Moved.{Moved}
use Rattle.step.specs.declared.over.Onward.{Onward}
use Rattle.state_words.specs.Words.{words_of}
use Rattle.onward_calls.specs.Calls.{stored_in}
use Rattle.onward_calls.proofs.knucklepin_finish.Goals as goal

pub returns : goal.returns
returns c =
    let a = c.args in
    let w = a.state.now in
    let same =
    c.finish-done.ensures.answer
    ∙ ap₂ (λ (s : Guest) (r : Record). finished s r a.value) c.state_of.ensures
    c.record_of.ensures in
    record {
      lent = record {
        answer = c.number.ensures ∙ ap (λ (x : Onward Moved). access_number x.answer) same;
        words = c.words_of.ensures ∙ ap (λ (x : Onward Moved). words_of w x.state) same;
      };
      given = c.stored_in.ensures ∙ ap (λ (x : Onward Moved). stored_in x.answer) same;
    }
