-- Two states that change alike are one.
use Rattle.std.proofs.Common.{◌≡◌, ℕ, List, ap, ◌∙◌, ap₂}
use Rattle.exception.specs.declared.state.FaultRegisters.{FaultRegisters}
use Rattle.exception.specs.declared.state.Guest.{Guest}
use Rattle.exception.specs.declared.state.Saved.{Saved}
use Rattle.exception.specs.State.{changed}

pub changed_same : (s : Guest) {regs regs' : List ℕ} {pc pc' status status' : ℕ} {saved saved' : Saved} {faults faults' : FaultRegisters}
    → regs ≡ regs' → pc ≡ pc' → status ≡ status' → saved ≡ saved' → faults ≡ faults'
    → changed s regs pc status saved faults ≡ changed s regs' pc' status' saved' faults'
changed_same s {regs' = regs'} {pc' = pc'} {status} {status'} {saved} {saved'} {faults} r p t v f =
    ap₂ (λ (x : List ℕ) (y : ℕ). changed s x y status saved faults) r p
    ∙ ap₂ (λ (x : ℕ) (y : Saved). changed s regs' pc' x y faults) t v
    ∙ ap (changed s regs' pc' status' saved') f
