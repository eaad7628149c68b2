-- One register more loaded.
-- Assumes nothing.
use Rattle.std.proofs.Common.{◌≡◌, ℕ, ◌+◌, Bool, List, get_or, sym, ap, ◌∙◌, ap₂, add-one}
use Rattle.a32_transfer.specs.declared.shape.Shape.{Shape}
use Rattle.a32_transfer.specs.declared.landing.Landing.{Landing}
use Rattle.a32_transfer.specs.Landing.{arrived, load_to, loaded_first}

pub one_loaded : (regs : List ℕ) (mode : ℕ) (big : Bool) (shape : Shape) (numbers values : List ℕ) (i : ℕ) {to after : Landing} {v : ℕ}
    → to ≡ loaded_first regs mode big shape numbers values i → v ≡ arrived shape big (get_or values i 0)
    → after ≡ load_to mode to (get_or numbers i 0) v
    → after ≡ loaded_first regs mode big shape numbers values (i + 1)
unfolding loaded_first
one_loaded regs mode big shape numbers values i p q e =
    e ∙ ap₂ (λ (t : Landing) (x : ℕ). load_to mode t (get_or numbers i 0) x) p q
    ∙ ap (loaded_first regs mode big shape numbers values) (sym (add-one i))
