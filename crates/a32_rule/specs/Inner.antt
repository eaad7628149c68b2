-- Inner contracts, which nobody has to believe: each is shown to be a definition of the other files where it matters.
use Rattle.std.specs.Prelude.{ℕ, Bool, true, false, cond, not, List, [], ◌∷◌, eqb, ltb}
use Rattle.a32_fields.specs.Code.{dual}
use Rattle.a32_rule.specs.Rule.{pair, pair_rule}
use Rattle.a32_fields.specs.declared.kinds.Code.{Code}
use Rattle.a32_fields.specs.declared.kinds.Code.TheVariants.{Word, Extra}
use Rattle.a32_fields.specs.declared.kinds.Transfer.{Transfer}
use Rattle.a32_fields.specs.declared.kinds.Transfer.TheVariants.{Ldr, Str, Ldrb, Strb, Ldrh, Strh, Ldrsb, Ldrsh, Ldrd, Strd}

-- an immediate fits: 12 bits, or 8
abbrev pub immediate_fits : Code → ℕ → Bool
immediate_fits (Word b l) imm = ltb imm 4096
immediate_fits (Extra s h l) imm = ltb imm 256

-- bytes and halfwords
abbrev pub narrow : Transfer → Bool
narrow Ldr = false
narrow Str = false
narrow Ldrb = true
narrow Strb = true
narrow Ldrh = true
narrow Strh = true
narrow Ldrsb = true
narrow Ldrsh = true
narrow Ldrd = false
narrow Strd = false

-- what a transfer asks of Rt
abbrev pub target_rule : Transfer → ℕ → Bool
target_rule transfer t = cond (dual transfer) (pair_rule t) (cond (narrow transfer) (not (eqb t 15)) true)

-- the registers of a transfer of one or two
abbrev pub transferred_by : Transfer → ℕ → List ℕ
transferred_by transfer t = cond (dual transfer) (pair t) (t ∷ [])
