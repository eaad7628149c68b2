-- `log_section::entry::entry_in_lem` meets its contract: each arm reads as many bytes as an entry of its section has.
-- Assumes nothing.
use mathlib.Core.Path.{◌≡◌, ap}
use native.Mathlib.Omega.{arith}
use lib.Seq.{drop-drop}
use Rattle.log_section.specs.declared.entry.Entry.{Entry}
use Rattle.log_section.proofs.Numbers.{number_one, low_byte, high_byte}
use Rattle.log_section.proofs.entry.entry_in.Goals as goal

pub returns-in-0 : goal.returns-in-0
returns-in-0 c =
    let a = c.before.before.before.args in
    let room = rw c.before.in-0.is at c.before.before.before.requires.1 in
    rw c.before.in-0.is (ap Entry.Edition (number_one a.log.now a.at (omega (arith, room))))

pub returns-in-2 : goal.returns-in-2
returns-in-2 c =
    let a = c.before.before.before.before.args in
    rw (c.before.before.in-2.is, drop-drop 8 a.at a.log.now, c.before.eight-in-2.ensures, c.eight-in-2-2.ensures)

-- the last arm has section 4 alone
pub returns-in_default : goal.returns-in_default
returns-in_default c =
    let s = c.args.log.now in
    let last : c.args.passed ≡ 3 = omega arith in
    let room = rw last at c.requires.1 in
    let low = low_byte s c.args.at (λ i. (c.type_inv.log i).fits) room in
    let high = high_byte s c.args.at (λ i. (c.type_inv.log i).fits) room in
    rw (last, low, high)
