-- `log_cut::count` meets its contract: injections are counted in a whole section alone.
-- Assumes nothing.
use mathlib.Core.Path.{◌∙◌}
use Rattle.log_cut.proofs.Rests.{part_there, some_size}
use Rattle.log_cut.proofs.Given.{none_counted, standing_counted, injections_counted}
use Rattle.log_cut.proofs.count.Goals as goal

pub returns-then-passed-ge4 : goal.returns-then-passed-ge4
returns-then-passed-ge4 c =
    let a = c.args in
    none_counted a.log.now a.passed c.if-passed-ge4.true

pub returns-then-passed-eq3 : goal.returns-then-passed-eq3
returns-then-passed-eq3 c =
    let tested = c in
    let started = tested in
    let a = started.args in
    let s = a.log.now in
    c.injections_in.ensures
    ∙ rw (part_there s a.passed _ started.start-at.ensures.1, tested.if-passed-eq3.true) (injections_counted s)

pub whole_in-requires : goal.whole_in-requires
whole_in-requires c =
    let tested = c in
    rw c.size_of.ensures (some_size tested.args.passed tested.if-passed-ge4.false)

pub returns : goal.returns
returns c =
    let other = c in
    let started = other in
    let tested = started in
    let a = tested.args in
    let s = a.log.now in
    c.whole_in.ensures
    ∙ rw (c.size_of.ensures, part_there s a.passed _ started.start-at.ensures.1)
    (standing_counted s a.passed tested.if-passed-ge4.false other.if-passed-eq3.false)
