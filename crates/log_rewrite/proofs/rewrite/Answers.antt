-- `log_rewrite::rewrite` meets its contract.
-- Assumes nothing.
use Rattle.std.proofs.Common.{rules, refl}
use Rattle.log_rewrite.proofs.Laws.{refused_so, rewritten_as}
use Rattle.log_rewrite.proofs.rewrite.Goals as goal

pub returns-in_err-read : goal.returns-in_err-read
returns-in_err-read c = refused_so c.args.log.now c.args.out.now c.read.ensures c.in_err-read.was (search rules)

pub returns-in_err-written : goal.returns-in_err-written
returns-in_err-written c =
    rewritten_as c.args.log.now c.args.out.now _ (λ i. (c.type_inv.log i).fits) (search rules) c.written.ensures c.in_err-written.was (search rules)

pub returns : goal.returns
returns c = rewritten_as c.args.log.now c.args.out.now _ (λ i. (c.type_inv.log i).fits) (search rules) c.written.ensures c.in_ok-written.was refl
