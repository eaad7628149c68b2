-- `log_pieces::entries::seen` meets its contract.
-- Assumes nothing.
use mathlib.Core.Path.{◌≡◌, sym, ◌∙◌}
use Prim.Native.Nat.{◌<◌}
use native.Mathlib.Omega.{arith}
use lib.ListN.{length}
use Rattle.log_pieces.specs.Text.{shown}
use Rattle.log_pieces.proofs.Seen.{found_here, not_here, nowhere_left}
use Rattle.log_pieces.proofs.entries.seen.Goals as goal

pub returns-then-edition_at-edition : goal.returns-then-edition_at-edition
returns-then-edition_at-edition c =
    let l = c.loop-i in
    let a = c.args in
    let within : l.i < length (shown a.log.now).editions = omega arith in
    sym (found_here (shown a.log.now).editions a.edition l.i within (sym c.edition_at.ensures ∙ c.if-edition_at-edition.true))
    ∙ l.invariant

pub loop-i-preserved : goal.loop-i-preserved
loop-i-preserved c =
    let l = c.loop-i in
    let a = c.args in
    let within : l.i < length (shown a.log.now).editions = omega arith in
    sym (not_here (shown a.log.now).editions a.edition l.i within (λ e. c.if-edition_at-edition.false (c.edition_at.ensures ∙ e)))
    ∙ l.invariant

pub returns : goal.returns
returns c =
    let l = c.loop-i in
    let a = c.args in
    let all : l.i ≡ length (shown a.log.now).editions = omega arith in
    sym (nowhere_left (shown a.log.now).editions a.edition l.i all) ∙ l.invariant
