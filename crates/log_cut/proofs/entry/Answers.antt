-- `log_cut::entry` meets its contract: an entry that stands whole lies within the log.
-- Assumes nothing.
use Rattle.std.proofs.Common.{◌∙◌, ◌+◌, ◌*◌, ◌≤◌, length, arith}
use Rattle.log_cut.proofs.Given.{in_a_section, no_entry_past, room_there, entry_there}
use Rattle.log_cut.proofs.entry.Goals as goal

pub returns-then-count-i : goal.returns-then-count-i
returns-then-count-i c = no_entry_past c.args.log.now c.args.passed c.args.i (rw c.count.ensures at c.if-count-i.true)

pub start-at-requires : goal.start-at-requires
start-at-requires c = in_a_section c.args.log.now c.args.passed c.args.i (rw c.count.ensures at c.if-count-i.false)

-- the entry's bytes lie within the log
room : (c : goal.After-size_of) → c.start-at.result + 4 + c.args.i * c.size_of.result + c.size_of.result ≤ length c.args.log.now
room c =
    rw c.size_of.ensures
    (room_there c.args.log.now c.args.passed c.args.i _ (rw c.count.ensures at c.if-count-i.false) c.start-at.ensures.0 c.start-at.ensures.1)

pub overflow_mul-place : goal.overflow_mul-place
overflow_mul-place c = omega (arith, room c)

pub overflow_add-place-2 : goal.overflow_add-place-2
overflow_add-place-2 c = omega (arith, room c)

pub returns : goal.returns
returns c =
    c.entry_at.ensures
    ∙ rw c.size_of.ensures
    (entry_there c.args.log.now c.args.passed c.args.i _ (rw c.count.ensures at c.if-count-i.false) c.start-at.ensures.0
    c.start-at.ensures.1)
