-- The answer that a call's own answer makes.
-- Assumes nothing.
use Rattle.std.specs.Prelude.{◌≡◌, ⊤, Result, Ok, Err}
use mathlib.Core.Path.{ap, ◌∙◌}
use Rattle.example.specs.declared.Next.{Next}
use Rattle.example.specs.declared.refusals.Refusal.{Refusal}
use Rattle.example.specs.Gone.{Resuming, resumed_by}

-- a refusal that is converted is the one that the conversion names
pub resumed : {E : Type 0} (refused : E → Refusal) (a : Result ⊤ E) {r : Result Next Refusal}
    → Resuming (λ refusal made. made ≡ refused refusal) a r → r ≡ resumed_by refused a
resumed refused (Ok done) p = p
resumed refused (Err refusal) p = p.2 ∙ ap Err p.1
