-- `fault_code::data_code` meets its contract: the table is computed from the rule at each of its 64 entries, and no edition has a larger
-- code. Assumes nothing.
use Rattle.bits.proofs.Table.{at_entry}
use Rattle.edition.specs.Mask.{mask_of}
use Rattle.fault_code.specs.Code.{data_code}
use Rattle.edition.proofs.Masks.{empty_mask}
use Rattle.fault_code.proofs.Masks.{no_code}
use Rattle.fault_code.proofs.data_code.Goals as goal

pub returns-then-code-lt64 : goal.returns-then-code-lt64
unfolding mask_of
returns-then-code-lt64 c = at_entry 64 (λ k. mask_of (λ e. data_code e k)) c.before.args.code c.if-code-lt64.true

pub returns-else-code-lt64 : goal.returns-else-code-lt64
returns-else-code-lt64 c = empty_mask _ (λ e. no_code e c.before.args.code c.if-code-lt64.false)
