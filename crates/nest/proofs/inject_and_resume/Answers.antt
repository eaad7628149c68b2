-- `nest::inject_and_resume` meets its contract: an injection that is taken, and then the return with its correction, is the law of one
-- exception undone; any other answer is the injection's refusal.
use mathlib.Core.Path.{◌≡◌, sym, subst}
use native.Mathlib.Omega.{arith}
use borrow.Author.Rules.{rules}
use Rattle.signed.specs.declared.Signed.{Signed}
use Rattle.resume.specs.Promise.{Returning}
use Rattle.std.specs.Prelude.{Result, Ok}
use Rattle.std.proofs.lemmas.Result.{MatchResult-at_ok}
use Rattle.nest.specs.declared.NestRefusal.{NestRefusal}
use Rattle.nest.specs.Back.{GoingBack}
use Rattle.nest.proofs.Backs.{going_back, not_going}
use Rattle.nest.proofs.inject_and_resume.Goals as goal

pub returns-in-Ok : goal.returns-in-Ok
returns-in-Ok c =
    let made = c.inject-done in
    let went =
    going_back c.args.state c.args.what made.result made.ensures c.resume-back.result record { pc = omega arith; size = search rules }
    c.in-Ok.is
    (subst (λ (k : Signed). Returning made.result.state k c.resume-back.result) c.correction.ensures
    c.resume-back.ensures) in
    let zero : c.map_err.result ≡ Ok tt = MatchResult-at_ok _ _ tt went.0 c.map_err.ensures.cases in
    subst
    (λ (a : Result Unit NestRefusal). GoingBack c.args.state c.args.what record { answer = a; state = c.resume-back.result.state })
    (sym zero) went.1

pub returns-in-Err : goal.returns-in-Err
returns-in-Err c =
    not_going c.args.state c.args.what c.inject-done.result c.inject-done.ensures c.in-Err.is
