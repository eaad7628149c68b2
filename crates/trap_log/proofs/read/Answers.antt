-- `trap_log::read` meets its contract.
-- Assumes nothing.
use mathlib.Core.Path.{sym}
use borrow.Author.Tests.{lt-leb}
use lib.ListN.{length}
use Rattle.trap_log.specs.Answer.{read_of}
use Rattle.trap_log.proofs.Answers.{promised}
use Rattle.trap_log.proofs.read.Goals as goal

pub returns-then-log-gt-MOST : goal.returns-then-log-gt-MOST
unfolding read_of
returns-then-log-gt-MOST c =
    promised c.args.log.now (sym (simp (lt-leb (length c.args.log.now) 65536 c.if-log-gt-MOST.true)))

pub returns : goal.returns
returns c = promised c.args.log.now c.read_all.ensures
