-- `log_pieces::trap_lines` meets its contract: a trap's registers are an entry of the second section and one of the third.
-- Assumes nothing.
use mathlib.Core.Path.{ap, ◌∙◌}
use Prim.Native.Nat.{◌≤◌, ◌<◌}
use lib.ListN.{length}
use Rattle.std.specs.Prelude.{Some}
use Rattle.log_text.specs.Cut.{syndrome_text}
use Rattle.log_pieces.specs.Text.{shown}
use Rattle.log_pieces.proofs.Shown.{same_syndrome, same_address}
use Rattle.log_pieces.proofs.Placed.{with_address, without_address, same_text}
use Rattle.log_pieces.proofs.trap_lines.Goals as goal

pub returns-then-count-i : goal.returns-then-count-i
returns-then-count-i c =
    let a = c.args in
    let s = a.log.now in
    let esr = same_syndrome (c.in-Some-Syndrome.is ∙ ap Some c.in-Some-Syndrome.field-0-is) c.entry.ensures in
    let without : length (shown s).addresses ≤ a.i = rw c.count.ensures at c.if-count-i.true in
    same_text
    (ap syndrome_text esr
    ∙ without_address a.seen a.explained (shown s).syndromes (shown s).addresses a.i c.requires without)
    c.syndrome_line.ensures

pub returns : goal.returns
returns c =
    let a = c.args in
    let s = a.log.now in
    let esr = same_syndrome (c.in-Some-Syndrome.is ∙ ap Some c.in-Some-Syndrome.field-0-is) c.entry.ensures in
    let registers = same_address (c.in-Some-Address.is ∙ ap Some c.in-Some-Address.field-0-is) c.entry-2.ensures in
    let with : a.i < length (shown s).addresses = rw c.count.ensures at c.if-count-i.false in
    same_text (with_address a.seen a.explained (shown s).syndromes (shown s).addresses a.i c.requires with)
    (rw (esr, registers.0, registers.1) at c.trap_lines.ensures)
