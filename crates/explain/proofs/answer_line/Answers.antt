-- `explain::answer_line` meets its contract: the buffer has room for any answer.
-- Assumes nothing.
use Rattle.std.proofs.Common.{rules, ◌≡◌, ◌+◌, ◌≤◌, length, arith}
use Rattle.question.specs.Question.{question_of}
use Rattle.text.proofs.Appending.{appends_fitting}
use Rattle.explain.specs.Answer.{answer_text}
use Rattle.explain.proofs.Room.{answer_length}
use Rattle.explain.proofs.answer_line.Goals as goal

pub returns-clause-out_after : goal.returns-clause-out_after
returns-clause-out_after c =
    let q = question_of c.args.line.now in
    let size : length c.new-text.result.bytes.now ≡ length c.args.out.now = search rules in
    let room : 0 + length (answer_text q) ≤ length c.new-text.result.bytes.now = omega (arith, answer_length q, size, c.requires) in
    let told = (appends_fitting room (rw (c.parse.ensures, c.new-text.ensures.empty) at c.answer.ensures.appended)).1 in
    search (rules, told)
