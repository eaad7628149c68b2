-- `a32_calls::knucklepin_a32_finish` meets its contract: answer, words and lists are those of the call by value.
-- Assumes nothing.
use mathlib.Core.Path.{ap, ◌∙◌}
use Rattle.exception.specs.declared.state.Guest.{Guest}
use Rattle.a32_finish.specs.Answer.{finish_number}
use Rattle.a32_finish.specs.Finish.{finished}
use Rattle.a32_finish.specs.declared.answer.Finished.{Finished}
use Rattle.state_words.specs.Words.{words_of}
use Rattle.a32_calls.specs.Calls.{transfer_told}
use Rattle.a32_calls.proofs.knucklepin_a32_finish.Goals as goal

pub returns : goal.returns
returns c =
    let a = c.args in
    let w = a.state.now in
    let same =
    c.finish-done.ensures.answer
    ∙ ap (λ (s : Guest). finished s a.word a.values.now) c.state_of.ensures in
    record {
      lent = record {
        answer = c.number.ensures ∙ ap (λ (x : Finished). finish_number x.outcome.answer) same;
        words = c.words_of.ensures ∙ ap (λ (x : Finished). words_of w x.state) same;
      };
      transfer = c.transfer_told.ensures ∙ ap (λ (x : Finished). transfer_told x.outcome.answer) same;
      addresses = ap (λ (x : Finished). x.outcome.addresses) same;
      given = ap (λ (x : Finished). x.outcome.values) same;
    }
