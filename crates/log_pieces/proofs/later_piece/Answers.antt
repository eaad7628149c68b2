-- `log_pieces::later_piece` meets its contract: the editions' pieces come first, then the traps', then the injections', and the cut's last.
-- Assumes nothing.
use Prim.Native.Nat.{◌<◌}
use native.Mathlib.Omega.{arith}
use Rattle.log_cut.specs.Whole.{count_in}
use Rattle.text.proofs.Appending.{extends_none}
use Rattle.log_pieces.specs.Text.{shown}
use Rattle.log_pieces.proofs.Placed.{edition_piece, trap_piece_lem, injection_piece_lem, last_piece, no_piece, same_text}
use Rattle.log_pieces.proofs.later_piece.Goals as goal

pub returns-then-i-editions : goal.returns-then-i-editions
returns-then-i-editions c =
    let test = c in
    let a = test.args in
    let s = a.log.now in
    let within : a.i < count_in (shown s) 0 = rw test.count-editions.ensures at test.if-i-editions.true in
    same_text (edition_piece a.seen a.explained s a.i within) c.entry_line.ensures

pub returns-then-j-traps : goal.returns-then-j-traps
returns-then-j-traps c =
    let second = c in
    let first = second in
    let a = first.args in
    same_text
    (trap_piece_lem a.seen a.explained a.log.now first.count-editions.ensures second.count-traps.ensures a.i
    first.if-i-editions.false second.if-j-traps.true)
    c.trap_lines.ensures

pub returns-then-k-injections : goal.returns-then-k-injections
returns-then-k-injections c =
    let third = c in
    let second = third in
    let first = second in
    let a = first.args in
    same_text
    (injection_piece_lem a.seen a.explained a.log.now first.count-editions.ensures second.count-traps.ensures a.i
    first.if-i-editions.false third.count-injections.ensures second.if-j-traps.false third.if-k-injections.true)
    c.entry_line-then-k-injections.ensures

pub returns-then-k-injections-2 : goal.returns-then-k-injections-2
returns-then-k-injections-2 c =
    let fourth = c in
    let third = fourth in
    let second = third in
    let first = second in
    let a = first.args in
    same_text
    (last_piece a.seen a.explained a.log.now first.count-editions.ensures second.count-traps.ensures a.i
    first.if-i-editions.false third.count-injections.ensures second.if-j-traps.false fourth.if-k-injections-2.true)
    c.last_line.ensures

pub returns-else-k-injections-2 : goal.returns-else-k-injections-2
returns-else-k-injections-2 c =
    let third = c in
    let second = third in
    let first = second in
    let a = first.args in
    same_text
    (no_piece a.seen a.explained a.log.now first.count-editions.ensures second.count-traps.ensures a.i
    first.if-i-editions.false third.count-injections.ensures second.if-j-traps.false (omega (arith, third.if-k-injections.false, c.if-k-injections-2.false)))
    (extends_none _)
