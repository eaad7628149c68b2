use Rattle.text.proofs.Appending.{extends_none}
use Rattle.refusal_text.proofs.Asked.{none_asked}
use Rattle.refusal_text.proofs.long_asked.Goals as goal

pub returns-in-52428 : goal.returns-in-52428
returns-in-52428 c = rw c.in-52428.is c.append.ensures

pub returns-in-21845 : goal.returns-in-21845
returns-in-21845 c = rw c.in-21845.is c.append-in-21845.ensures

pub returns-in-17476 : goal.returns-in-17476
returns-in-17476 c = rw c.in-17476.is c.append-in-17476.ensures

pub returns-in-61680 : goal.returns-in-61680
returns-in-61680 c = rw c.in-61680.is c.append-in-61680.ensures

pub returns-in-43690 : goal.returns-in-43690
returns-in-43690 c = rw c.in-43690.is c.append-in-43690.ensures

pub returns-in_default : goal.returns-in_default
returns-in_default c =
    let n = c.in_default.in_default-own.rest in
    rw (none_asked _ n.0.0.0.0.1 n.0.0.0.1 n.0.0.1 n.0.1 n.1) (extends_none _)
