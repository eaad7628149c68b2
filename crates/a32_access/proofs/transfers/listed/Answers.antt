-- `a32_access::transfers::listed` meets its contract: the next register is put after the others, or passed.
-- Assumes nothing.
use Rattle.std.proofs.Common.{◌≡◌, ℕ, ◌+◌, true, false, List, length, set, sym, ap, ◌∙◌, ap₂}
use Rattle.bits.specs.Field.{bit_of}
use Rattle.a32_access.specs.Transferred.{listed_below, padded}
use Rattle.a32_access.proofs.Lists.{padded_more, length_one_more, listed_in, listed_out}
use Rattle.a32_access.proofs.transfers.listed.Goals as goal
use Rattle.a32_access.proofs.transfers.listed.Goals.{then-bit, else-bit}

module _ (list n count : ℕ) (numbers : List ℕ) (counted : count ≡ length (listed_below n list))
    (held : numbers ≡ padded 16 (listed_below n list)) where
  put : bit_of list n ≡ true → (count + 1 ≡ length (listed_below (n + 1) list)) × (set numbers count n ≡ padded 16 (listed_below (n + 1) list))
  put h =
      let more = listed_in n list h in (
        ap (λ (k : ℕ). k + 1) counted ∙ sym (ap length more ∙ length_one_more (listed_below n list) n),
        ap₂ (λ (l : List ℕ) (k : ℕ). set l k n) held counted ∙ padded_more 16 (listed_below n list) n ∙ ap (padded 16) (sym more),
      )

  passed : bit_of list n ≡ false → (count ≡ length (listed_below (n + 1) list)) × (numbers ≡ padded 16 (listed_below (n + 1) list))
  passed h = let same = listed_out n list h in (counted ∙ sym (ap length same), held ∙ ap (padded 16) (sym same))

pub loop-n-preserved : goal.loop-n-preserved
loop-n-preserved c =
    let l = c.loop-n in
    elim c.if-bit.branch [
      | then-bit w ↦
          let next = put c.args.list l.n l.count l.numbers l.invariant.counted l.invariant.held (sym c.bit.ensures ∙ w.if-bit.true) in
          record { counted = w.count-is ∙ next.0; held = w.numbers-is ∙ next.1 }
      | else-bit w ↦
          let next = passed c.args.list l.n l.count l.numbers l.invariant.counted l.invariant.held (sym c.bit.ensures ∙ w.if-bit.false) in
          record { counted = w.count-is ∙ next.0; held = w.numbers-is ∙ next.1 }
    ]
