use Rattle.short_layout.proofs.RoundTrip.{joined_record}
use Rattle.short_record.specs.Split.{record_at}
use Rattle.short_reason.specs.Reason.{why_of}
use Rattle.short_reason.proofs.Fits.{fits_at}
use Rattle.short_reason.proofs.why.Goals as goal

pub returns : goal.returns
unfolding why_of
returns c =
    let w = c.args.hsr.0 in
    rw (
      c.joined.ensures,
      c.rules-rule.ensures,
      c.record_at-r.ensures,
      joined_record (record_at w) (fits_at w),
    )
    at c.unless.ensures
