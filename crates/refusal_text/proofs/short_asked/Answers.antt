use Rattle.text.proofs.Appending.{extends_none}
use Rattle.refusal_text.proofs.Asked.{neither_asked}
use Rattle.refusal_text.proofs.short_asked.Goals as goal

pub returns-in-1 : goal.returns-in-1
returns-in-1 c = rw c.in-1.is c.append.ensures

pub returns-in-2 : goal.returns-in-2
returns-in-2 c = rw c.in-2.is c.append-in-2.ensures

pub returns-in_default : goal.returns-in_default
returns-in_default c = rw (neither_asked _ c.in_default.in_default-own.rest.0.1 c.in_default.in_default-own.rest.1) (extends_none _)
