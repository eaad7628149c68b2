-- `trapread::next_chunk` meets its contract: the buffer has room for the answers to a whole chunk.
-- Assumes nothing.
use Rattle.std.proofs.Common.{rules, ◌≡◌, ◌+◌, ◌≤◌, length, take, arith}
use Rattle.text.proofs.Appending.{appends_fitting}
use Rattle.trapread.specs.Lines.{answers_in}
use Rattle.trapread.proofs.Room.{chunk_length}
use Rattle.trapread.proofs.next_chunk.Goals as goal

pub returns-clause-answered : goal.returns-clause-answered
returns-clause-answered g c =
    let e = c.answers-after.ensures in
    let chunk = take c.unwrap_or.result c.read-read.new.space in
    let short : length chunk ≤ 512 = search rules in
    let size : length c.new-text.result.bytes.now ≡ length c.args.out.now = search rules in
    let room : 0 + length (answers_in c.args.line chunk) ≤ length c.new-text.result.bytes.now =
    omega (arith, chunk_length c.args.line chunk, short, size, c.requires) in
    let told = (appends_fitting room (rw c.new-text.ensures.empty at e.appends.appended)).1 in
    record { chunk = chunk; line = e.line_value; answers = search (rules, told) }
