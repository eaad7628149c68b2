-- `log_writer::put::section` meets its contract. The invariant: what is left of the entries, put behind those that were, gives what all of
-- them give. Assumes nothing.
use native.Mathlib.Omega.{arith}
use Rattle.log_section.specs.Log.{entry_bytes}
use Rattle.log_writer.proofs.Putting.{put_one, put_all, section_put}
use Rattle.log_writer.proofs.put.section.Goals as goal

pub loop-entry-preserved : goal.loop-entry-preserved
loop-entry-preserved g c =
    let t = g.E.Entry in
    let l = c.loop-entry in
    let e = c.put-end.ensures in
    put_one t.bytes t.size g.met.E.Entry.sized c.args.entries.now _ _ l.invariant c.loop-entry-test.true c.entry-item.result c.entry-item.is _ _ e.1 e.0

pub returns : goal.returns
returns g c =
    let t = g.E.Entry in
    let f = c.count-end in
    let a = c.args in
    let d = put_all t.bytes t.size g.met.E.Entry.sized a.entries.now _ _ c.loop-entry.invariant c.loop-entry-test.false in (
      omega (arith, d.0, f.ensures.0),
      section_put a.out.now _ _ (entry_bytes t.bytes a.entries.now) a.at _ _ f.ensures.1 f.ensures.0 d.1,
    )
