-- `short_rule::code::data_code` meets its contract: the table is computed from the rule at each of its 64 entries, and no edition has a
-- larger code. Assumes nothing.
use Rattle.bits.proofs.Table.{at_entry}
use Rattle.short_rule.specs.Edition.{editions, mask_of}
use Rattle.short_rule.specs.Code.{data_code}
use Rattle.edition.proofs.Masks.{mask_empty}
use Rattle.short_rule.proofs.Masks.{no_code}
use Rattle.short_rule.proofs.code.data_code.Goals as goal

pub returns-then-code-lt64 : goal.returns-then-code-lt64
unfolding mask_of
returns-then-code-lt64 c = at_entry 64 (λ k. mask_of (λ e. data_code e k)) c.args.code c.if-code-lt64.true

pub returns-else-code-lt64 : goal.returns-else-code-lt64
unfolding mask_of
returns-else-code-lt64 c = mask_empty editions _ (λ e. no_code e c.args.code c.if-code-lt64.false)
