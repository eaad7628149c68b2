use borrow.Author.Rules.{rules}
use mathlib.Core.Path.{◌≡◌, sym}
use native.Mathlib.Omega.{arith}
use lib.ListN.{length, get_or-eq_default}
use Rattle.rows.proofs.row.long.Goals as goal

pub returns-else-at-lt256 : goal.returns-else-at-lt256
returns-else-at-lt256 c =
    let args = c.before.before.args in
    let room : length args.row.numbers ≡ 256 = search rules in
    sym (get_or-eq_default args.row.numbers 0 {n = args.at} (omega (arith, room)))
