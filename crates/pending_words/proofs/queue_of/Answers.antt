-- `pending_words::queue_of` meets its contract. The invariant: what is left to raise, raised, is what waits in the number.
-- Assumes nothing.
use mathlib.Core.Path.{◌≡◌, sym, ◌∙◌, ap}
use mathlib.Core.List.{List}
use Prim.Native.Nat.{ℕ, suc, ◌+◌, ◌-◌, ◌/◌, ◌%◌, ◌<◌}
use native.Mathlib.Omega.{arith}
use Rattle.pending.specs.declared.Kind.{Kind}
use Rattle.pending.specs.Reading.{list_of}
use Rattle.pending_words.specs.Number.{raised_by, waiting_from}
use Rattle.pending_words.proofs.queue_of.Goals as goal

-- one pair of bits, where some are left
one : (p n : ℕ) (l : List Kind) → p < 16 → waiting_from (16 - p) n l ≡ waiting_from (16 - (p + 1)) (n / 4) (raised_by (n % 4) l)
unfolding waiting_from
one p n l h =
    let e : 16 - p ≡ suc (16 - (p + 1)) = omega arith in
    ap (λ (k : ℕ). waiting_from k n l) e

pub loop-pair-preserved : goal.loop-pair-preserved
loop-pair-preserved c =
    ap (waiting_from (16 - (c.loop-pair._pair + 1)) (c.loop-pair.left / 4)) c.raise_number-queue.ensures
    ∙ sym (one c.loop-pair._pair c.loop-pair.left (list_of c.loop-pair.queue) (omega arith))
    ∙ c.loop-pair.invariant

pub returns : goal.returns
unfolding waiting_from
returns c =
    let end : 16 - c.loop-pair._pair ≡ 0 = omega arith in
    sym (ap (λ (k : ℕ). waiting_from k c.loop-pair.left (list_of c.loop-pair.queue)) end) ∙ c.loop-pair.invariant
