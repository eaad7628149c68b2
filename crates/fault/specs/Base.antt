-- DFSR as it stood before request C-21, without a domain. The laws of proofs/Domains.antt say where what holds now is what held then.
use Rattle.std.specs.Prelude.{ℕ, ◌+◌, Bool, Option, option_map}
use Rattle.fault.specs.declared.Row.{Row}
use Rattle.fault.specs.Fault.{status_of, write_bit}

unfoldable pub base_dfsr : Row → Bool → ℕ → Option ℕ
base_dfsr row write ttbcr = option_map (λ w. write_bit write + w) (status_of row ttbcr)
