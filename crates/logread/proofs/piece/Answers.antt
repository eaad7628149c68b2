-- `logread::piece` meets its contract: the buffer has room for the whole piece.
-- Assumes nothing.
use Rattle.std.proofs.Common.{◌+◌, ◌≤◌, [], length, get_or, arith}
use Rattle.text.proofs.Appending.{appends_fitting, appends_counts}
use Rattle.log_pieces.specs.Text.{shown, seen_mask, pieces_of}
use Rattle.log_pieces.proofs.Room.{piece_short}
use Rattle.logread.proofs.piece.Goals as goal

pub returns : goal.returns
returns c =
    let s = c.args.log.now in
    let text = rw c.requires.seen_value at c.put_piece.ensures in
    let room : 0 + length (get_or (pieces_of c.args.explained s) c.args.i []) ≤ length c.args.out.now =
    omega (arith, piece_short (seen_mask (shown s)) c.args.explained s c.args.i, c.requires.in_bounds) in
    record { out_after = (appends_fitting room text).1; prefix_len = appends_counts (omega arith) text }
