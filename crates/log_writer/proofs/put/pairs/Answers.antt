-- `log_writer::put::pairs` meets its contract. The invariant: what is left of the entries, put behind those that were, gives what all of
-- them give. Assumes nothing.
use mathlib.Core.Path.{sym, ap, ◌∙◌}
use native.Mathlib.Omega.{arith}
use lib.Seq.{sets}
use Rattle.log_section.specs.Number.{little}
use Rattle.log_section.specs.Log.{pair, entry_bytes}
use Rattle.log_writer.proofs.Putting.{paired_length, paired_at, pair_stored, put_one, put_all, section_put}
use Rattle.trap_log.proofs.RoundTrip.{pair_sized}
use Rattle.log_writer.specs.Lists.{paired}
use Rattle.log_writer.proofs.put.pairs.Goals as goal

pub loop-i-preserved : goal.loop-i-preserved
loop-i-preserved c =
    let l = c.loop-i in
    let a = c.args in
    let first = c.put-middle.ensures in
    let second = c.put-end.ensures in
    let same = c.requires.0 in
    let more = c.loop-i-test.true in
    put_one pair 16 pair_sized (paired a.fars.now a.hpfars.now) _ _ l.invariant
    (omega (arith, more, paired_length a.fars.now a.hpfars.now same)) _
    (sym (paired_at a.fars.now a.hpfars.now l.i _ same more)) _ _
    (second.1 ∙ rw first.1 (pair_stored a.fars.now a.hpfars.now l.out l.i l.end _ first.0))
    (omega (arith, first.0, second.0))

pub returns : goal.returns
returns c =
    let f = c.count-end in
    let a = c.args in
    let same = c.requires.0 in
    let n = paired_length a.fars.now a.hpfars.now same in
    let d = put_all pair 16 pair_sized (paired a.fars.now a.hpfars.now) _ _ c.loop-i.invariant
    (omega (arith, n, c.loop-i-test.false)) in (
      omega (arith, d.0, f.ensures.0, n),
      section_put a.out.now _ _ (entry_bytes pair (paired a.fars.now a.hpfars.now)) a.at _ _
          (f.ensures.1 ∙ ap (λ k. sets a.out.now a.at (little 4 k)) (sym n)) f.ensures.0 d.1,
    )
