-- Every fault code that some edition has has a name.
-- Assumes nothing.
use mathlib.Core.Bool.{Bool, ◌||◌}
use Prim.Native.Nat.{ℕ, ◌<◌}
use lib.Dec.{T, eqb}
use Rattle.edition.specs.Mask.{mask_below}
use Rattle.names.specs.Name.{meaning_of}
use Rattle.names.specs.Code.{fault_codes}
use Rattle.refusal_text.proofs.Why.{some}
use Rattle.fault_code.specs.Code.{data_code}
use Rattle.explain_text.proofs.Features.{all_below, below}

-- no edition has a fault code, or it has a name
abbrev named : ℕ → Bool
named code = eqb (mask_below 16 (λ e. data_code e code)) 0 || some (meaning_of fault_codes code)

all_named : T (all_below 64 named)
all_named = tt

-- no edition has the code, or it has a name
pub code_named : (code : ℕ) → code < 64 → T (named code)
code_named = below 64 named all_named
