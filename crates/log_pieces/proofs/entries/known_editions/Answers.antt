-- `log_pieces::entries::known_editions` meets its contract. The invariant: the mask of the editions that were gone through, and the next
-- one's bit. Assumes nothing.
use mathlib.Core.Path.{◌≡◌, sym, ap, ap₂, ◌∙◌}
use Prim.Native.Nat.{ℕ, ◌+◌, ◌*◌}
use native.Mathlib.Omega.{arith}
use Rattle.edition.specs.Mask.{mask_of}
use Rattle.bits.specs.Among.{among}
use Rattle.log_pieces.specs.Text.{shown}
use Rattle.log_pieces.proofs.Seen.{mask_more, mask_same_on, mask_within, power_more, power_within}
use Rattle.log_pieces.proofs.entries.known_editions.Goals as goal
use Rattle.log_pieces.proofs.entries.known_editions.Goals.{then-seen, else-seen}

pub overflow_add-mask : goal.overflow_add-mask
overflow_add-mask c =
    let l = c.loop-e in
    let test = among (shown c.args.log.now).editions in
    omega (arith, l.invariant.0, l.invariant.1, mask_within test l.e c.loop-e-test.true)

pub overflow_mul-bit : goal.overflow_mul-bit
overflow_mul-bit c =
    let l = c.loop-e in
    let test = among (shown c.args.log.now).editions in
    omega (arith, l.invariant.0, power_within test l.e c.loop-e-test.true)

pub loop-e-preserved : goal.loop-e-preserved
loop-e-preserved c =
    let l = c.loop-e in
    let test = among (shown c.args.log.now).editions in
    let yes_or_no = sym c.seen.ensures in (
      ap (λ (b : ℕ). b * 2) l.invariant.0 ∙ power_more test l.e,
      elim c.if-seen.branch [
        | then-seen w ↦ w.mask-is ∙ ap₂ ◌+◌ l.invariant.1 l.invariant.0 ∙ mask_more test l.e (yes_or_no ∙ w.if-seen.true)
        | else-seen w ↦ w.mask-is ∙ l.invariant.1 ∙ mask_same_on test l.e (yes_or_no ∙ w.if-seen.false)
      ],
    )

pub returns : goal.returns
unfolding mask_of
returns c =
    let l = c.loop-e in
    let all : l.e ≡ 16 = omega arith in
    rw all at l.invariant.1
