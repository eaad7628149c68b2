use Rattle.layout.proofs.RoundTrip.{joined_record}
use Rattle.record.specs.Split.{record_at}
use Rattle.reason.specs.Reason.{why_of}
use Rattle.reason.proofs.Fits.{fits_at}
use Rattle.reason.proofs.why.Goals as goal

pub returns : goal.returns
unfolding why_of
returns c =
    let w = c.args.esr.0 in
    rw (
      c.field32-2.ensures,
      c.debug_exception-debug.ensures,
      c.field32.ensures,
      c.unless-fields.ensures,
      c.joined.ensures,
      c.rules-rule.ensures,
      c.record_at-r.ensures,
      joined_record (record_at w) (fits_at w),
    )
    at c.unless.ensures
