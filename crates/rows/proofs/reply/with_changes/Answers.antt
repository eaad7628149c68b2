use Rattle.std.proofs.Common.{◌≡◌, sym, ap, ◌∙◌, get_or, add-one, arith}
use borrow.Author.Rules.{rules}
use Rattle.rows.specs.declared.reply.Reply.{Reply}
use Rattle.rows.specs.Reply.{with_change, with_changes}
use Rattle.rows.proofs.reply.with_changes.Goals as goal

pub loop-place-preserved : goal.loop-place-preserved
loop-place-preserved c =
    let i = c.loop-place.place in
    let b = c.args.before in
    let a = c.args.after in (
      search rules,
      c.with_change-next.ensures ∙ ap (λ (r : Reply). with_change r i (get_or b i 0) (get_or a i 0)) c.loop-place.invariant.1
          ∙ sym (ap (with_changes c.args.reply b a) (add-one i)),
    )

pub returns : goal.returns
returns c =
    let end : c.loop-place.place ≡ 48 = omega arith in
    c.loop-place.invariant.1 ∙ ap (with_changes c.args.reply c.args.before c.args.after) end
