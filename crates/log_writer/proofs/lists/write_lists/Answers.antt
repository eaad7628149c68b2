-- `log_writer::lists::write_lists` meets its contract: the tests that led to each answer are those of the definition, in its order, and the
-- sections are put only where all of them passed.
-- Assumes nothing.
use mathlib.Core.Path.{◌≡◌, refl, sym, ap, ◌∙◌}
use Prim.Native.Nat.{◌≤◌}
use native.Mathlib.Omega.{arith}
use lib.Seq.{sets}
use Rattle.log_section.specs.Log.{word, pair, injection, section_bytes}
use Rattle.log_writer.specs.Lists.{Lists, paired}
use Rattle.log_writer.specs.Write.{length_by}
use Rattle.std.specs.Prelude.{Ok}
use Rattle.log_writer.proofs.Tests.{promised, too_long_lem, other_fars, other_hpfars, wide_domain_lem, no_room_lem, has_room, long_by, short_by}
use Rattle.log_writer.proofs.Tests.{sections_put}
use Rattle.log_writer.proofs.lists.write_lists.Goals as goal

pub returns-then-length-gt-MOST : goal.returns-then-length-gt-MOST
returns-then-length-gt-MOST c =
    let lists : Lists =
    record {
      editions = c.args.editions.now;
      syndromes = c.args.syndromes.now;
      fars = c.args.fars.now;
      hpfars = c.args.hpfars.now;
      injections = c.args.injections.now;
    } in
    let long = long_by c.length_by-length.result (length_by lists) (omega (arith, c.length_by-length.ensures, c.max-addresses.ensures)) c.if-length-gt-MOST.true in
    promised lists c.args.out.now _ _ (too_long_lem lists _ long) refl

pub returns-then-syndromes-fars : goal.returns-then-syndromes-fars
returns-then-syndromes-fars c =
    let lists : Lists =
    record {
      editions = c.args.editions.now;
      syndromes = c.args.syndromes.now;
      fars = c.args.fars.now;
      hpfars = c.args.hpfars.now;
      injections = c.args.injections.now;
    } in
    let long : c.length_by-length.result ≡ length_by lists = short_by _ _ (omega (arith, c.length_by-length.ensures, c.max-addresses.ensures)) c.if-length-gt-MOST.false in
    let small : length_by lists ≤ 65536 = rw long at c.if-length-gt-MOST.false in
    promised lists c.args.out.now _ _ (other_fars lists _ small c.if-syndromes-fars.true) refl

pub returns-then-syndromes-hpfars : goal.returns-then-syndromes-hpfars
returns-then-syndromes-hpfars c =
    let lists : Lists =
    record {
      editions = c.args.editions.now;
      syndromes = c.args.syndromes.now;
      fars = c.args.fars.now;
      hpfars = c.args.hpfars.now;
      injections = c.args.injections.now;
    } in
    let long : c.length_by-length.result ≡ length_by lists = short_by _ _ (omega (arith, c.length_by-length.ensures, c.max-addresses.ensures)) c.if-length-gt-MOST.false in
    let small : length_by lists ≤ 65536 = rw long at c.if-length-gt-MOST.false in
    promised lists c.args.out.now _ _ (other_hpfars lists _ small c.if-syndromes-fars.false c.if-syndromes-hpfars.true) refl

pub returns-then-not-fit : goal.returns-then-not-fit
returns-then-not-fit c =
    let lists : Lists =
    record {
      editions = c.args.editions.now;
      syndromes = c.args.syndromes.now;
      fars = c.args.fars.now;
      hpfars = c.args.hpfars.now;
      injections = c.args.injections.now;
    } in
    let long : c.length_by-length.result ≡ length_by lists = short_by _ _ (omega (arith, c.length_by-length.ensures, c.max-addresses.ensures)) c.if-length-gt-MOST.false in
    let small : length_by lists ≤ 65536 = rw long at c.if-length-gt-MOST.false in
    promised lists c.args.out.now _ _
    (wide_domain_lem lists _ small c.if-syndromes-fars.false c.if-syndromes-hpfars.false (sym c.domains_fit-fit.ensures ∙ c.if-not-fit.true)) refl

pub returns-then-out-length : goal.returns-then-out-length
returns-then-out-length c =
    let lists : Lists =
    record {
      editions = c.args.editions.now;
      syndromes = c.args.syndromes.now;
      fars = c.args.fars.now;
      hpfars = c.args.hpfars.now;
      injections = c.args.injections.now;
    } in
    let long : c.length_by-length.result ≡ length_by lists = short_by _ _ (omega (arith, c.length_by-length.ensures, c.max-addresses.ensures)) c.if-length-gt-MOST.false in
    let small : length_by lists ≤ 65536 = rw long at c.if-length-gt-MOST.false in
    promised lists c.args.out.now _ _
    (no_room_lem lists _ small c.if-syndromes-fars.false c.if-syndromes-hpfars.false (cc)
    (rw long at c.if-out-length.true)) refl

pub returns : goal.returns
returns c =
    let lists : Lists =
    record {
      editions = c.args.editions.now;
      syndromes = c.args.syndromes.now;
      fars = c.args.fars.now;
      hpfars = c.args.hpfars.now;
      injections = c.args.injections.now;
    } in
    let long : c.length_by-length.result ≡ length_by lists = short_by _ _ (omega (arith, c.length_by-length.ensures, c.max-addresses.ensures)) c.if-length-gt-MOST.false in
    let small : length_by lists ≤ 65536 = rw long at c.if-length-gt-MOST.false in
    let a = c.args in
    let fars = c.if-syndromes-fars.false in
    let hpfars = c.if-syndromes-hpfars.false in
    let one = c.section-second in
    let two = c.section-third in
    let three = c.pairs-fourth in
    let four = c.section in
    promised lists a.out.now _ _
    (ap Ok long
    ∙ has_room lists _ small fars hpfars (sym c.domains_fit-fit.ensures ∙ c.if-not-fit.false) (rw long at c.if-out-length.false))
    (four.ensures.1
    ∙ ap (λ l. sets l three.result (section_bytes injection a.injections.now))
    (three.ensures.1
    ∙ ap (λ l. sets l two.result (section_bytes pair (paired a.fars.now a.hpfars.now)))
    (two.ensures.1 ∙ ap (λ l. sets l one.result (section_bytes word a.syndromes.now)) one.ensures.1))
    ∙ sections_put lists a.out.now (sym fars ∙ hpfars) _ _ _ _ (omega (arith, one.ensures.0)) two.ensures.0 three.ensures.0
    (omega (arith, long, fars, hpfars, one.ensures.0, two.ensures.0, three.ensures.0)) c.if-out-length.false)
