use mathlib.Core.Path.{sym, ◌∙◌}
use Rattle.resume.proofs.Answers.{refused}
use Rattle.resume.proofs.resume.Goals as goal

pub returns-in-Err : goal.returns-in-Err
returns-in-Err c = refused c.args.state c.args.correction c.in-Err.refusal (sym c.in-Err.is ∙ c.judged.ensures)
