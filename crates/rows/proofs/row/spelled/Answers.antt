use mathlib.Core.Path.{◌≡◌, sym, ap, ◌∙◌}
use native.Mathlib.Numerals.{add-one}
use native.Mathlib.Omega.{arith}
use lib.ListN.{length, get_or}
use Rattle.rows.specs.Row.{with_letter, spelled_below}
use Rattle.rows.proofs.row.spelled.Goals as goal

pub loop-letter-preserved : goal.loop-letter-preserved
loop-letter-preserved c =
    let letters = c.args.letters.now in
    let i = c.loop-letter.letter-index in
    c.with_letter-word.ensures ∙ ap (λ w. with_letter w (get_or letters i 0)) c.loop-letter.invariant
    ∙ sym (ap (spelled_below letters) (add-one i))

pub returns : goal.returns
returns c =
    let letters = c.args.letters.now in
    let end : c.loop-letter.letter-index ≡ length letters = omega arith in
    c.loop-letter.invariant ∙ ap (spelled_below letters) end
