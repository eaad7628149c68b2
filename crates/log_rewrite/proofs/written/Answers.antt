-- `log_rewrite::written` meets its contract: the slices that the writer is called with are the lists of the log's entries.
-- Assumes nothing.
use mathlib.Core.Path.{◌≡◌, ◌∙◌, subst}
use native.Mathlib.Omega.{arith}
use lib.Dec.{lit<}
use Rattle.log_section.specs.Section.{count_after}
use Rattle.log_writer.specs.Lists.{Lists}
use Rattle.log_writer.specs.Write.{Writing}
use Rattle.log_rewrite.proofs.Given.{counted, few_traps, few_injections, lists_given}
use Rattle.log_rewrite.proofs.written.Goals as goal

pub slice_bounds-write_raw-end : goal.slice_bounds-write_raw-end
slice_bounds-write_raw-end c =
    let s = c.args.log.now in
    let traps : c.count-traps.result ≡ count_after s 1 = c.count-traps.ensures ∙ counted s c.requires 1 (lit< tt) in
    omega (arith, few_traps s c.requires)

pub slice_bounds-write_raw-end-2 : goal.slice_bounds-write_raw-end-2
slice_bounds-write_raw-end-2 c =
    let s = c.args.log.now in
    let traps : c.count-traps.result ≡ count_after s 1 = c.count-traps.ensures ∙ counted s c.requires 1 (lit< tt) in
    omega (arith, few_traps s c.requires)

pub slice_bounds-write_raw-end-3 : goal.slice_bounds-write_raw-end-3
slice_bounds-write_raw-end-3 c =
    let s = c.args.log.now in
    let traps : c.count-traps.result ≡ count_after s 1 = c.count-traps.ensures ∙ counted s c.requires 1 (lit< tt) in
    omega (arith, few_traps s c.requires)

pub slice_bounds-write_raw-end-4 : goal.slice_bounds-write_raw-end-4
slice_bounds-write_raw-end-4 c =
    let s = c.args.log.now in
    let last : c.count-last.result ≡ count_after s 3 = c.count-last.ensures ∙ counted s c.requires 3 (lit< tt) in
    omega (arith, few_injections s c.requires)

pub returns : goal.returns
returns c =
    let s = c.args.log.now in
    let traps : c.count-traps.result ≡ count_after s 1 = c.count-traps.ensures ∙ counted s c.requires 1 (lit< tt) in
    let last : c.count-last.result ≡ count_after s 3 = c.count-last.ensures ∙ counted s c.requires 3 (lit< tt) in
    subst (λ (l : Lists). Writing l c.args.out.now c.write_raw.new.out c.write_raw.result)
    (lists_given s c.requires _ _ traps last _ _ _ _ _ c.bytes-editions.ensures c.injections.ensures (omega arith)
    c.words.ensures (omega arith) c.words-2.ensures (omega arith) c.words-3.ensures (omega arith))
    c.write_raw.ensures
