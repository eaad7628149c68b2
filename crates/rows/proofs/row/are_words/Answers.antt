use borrow.Author.Rules.{rules}
use mathlib.Core.Path.{◌≡◌, refl, sym, ap, ap₂, ◌∙◌}
use mathlib.Core.Bool.{Bool, ◌&&◌, ◌||◌}
use Prim.Native.Nat.{ℕ}
use native.Mathlib.Numerals.{add-one}
use native.Mathlib.Omega.{arith}
use lib.Dec.{ltb, leb}
use Rattle.rows.specs.Row.{is_word, words_below}
use Rattle.rows.proofs.row.are_words.Goals as goal

pub loop-i-init : goal.loop-i-init
loop-i-init c = (search rules, refl)

pub loop-i-preserved : goal.loop-i-preserved
loop-i-preserved c =
    let at = c.before.before in
    let row = at.before.args.row in
    let from = at.before.args.from in
    let i = at.loop-i.i in (
      search rules,
      ap₂ ◌&&◌ at.loop-i.invariant.1 (ap (λ (n : ℕ). ltb i from || is_word n) c.long.ensures) ∙ sym (ap (words_below row from) (add-one i)),
    )

pub returns : goal.returns
returns c =
    let at = c.before.before in
    let row = at.before.args.row in
    let from = at.before.args.from in
    let to = at.before.args.to in
    let end : at.loop-i.i ≡ to = omega arith in
    ap (λ (b : Bool). leb to row.count && b) (at.loop-i.invariant.1 ∙ ap (words_below row from) end)
