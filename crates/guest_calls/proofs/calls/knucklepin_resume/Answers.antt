-- `guest_calls::calls::knucklepin_resume` meets its contract: answer and words are those of the call by value.
-- Assumes nothing.
use mathlib.Core.Path.{ap, ◌∙◌}
use Rattle.exception.specs.declared.state.Guest.{Guest}
use Rattle.signed.specs.declared.Signed.{Signed}
use Rattle.resume.specs.Answer.{answer_number}
use Rattle.resume.specs.Return.{returned}
use Rattle.resume.specs.declared.Resumed.{Resumed}
use Rattle.state_words.specs.Words.{words_of}
use Rattle.guest_calls.proofs.calls.knucklepin_resume.Goals as goal

pub returns : goal.returns
returns c =
    let a = c.args in
    let same =
    c.resume-back.ensures.answer
    ∙ ap (λ (s : Guest). returned s (Signed.Plus a.correction)) c.state_of.ensures in
    record {
      answer = c.number.ensures ∙ ap (λ (x : Resumed). answer_number x.answer) same;
      words = c.words_of.ensures ∙ ap (λ (x : Resumed). words_of a.state.now x.state) same;
    }
