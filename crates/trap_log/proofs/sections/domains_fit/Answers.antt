-- `trap_log::sections::domains_fit` meets its contract. The invariant: the domains fit where those that are left do.
-- Assumes nothing.
use mathlib.Core.Path.{◌≡◌, sym, ◌∙◌}
use Prim.Native.Nat.{ℕ}
use mathlib.Core.List.{List}
use native.Mathlib.Omega.{arith}
use lib.ListN.{length, drop}
use Rattle.log_section.specs.Section.{injection_size}
use Rattle.log_section.specs.Log.{injection_in, entries_in}
use Rattle.log_section.proofs.Codec.{entries_count}
use Rattle.log_section.proofs.Domains.{domain_at, wide_here, fits_here, none_left}
use Rattle.trap_log.proofs.sections.domains_fit.Goals as goal

abbrev injections : List ℕ → ℕ → List ℕ
injections s count = entries_in injection_size injection_in count (drop 4 s)

-- as many injections as the count says
many : (s : List ℕ) (count : ℕ) → length (injections s count) ≡ count
many s count = entries_count injection_size injection_in count (drop 4 s)

pub returns-then-rest-i-gt-LAST_DOMAIN : goal.returns-then-rest-i-gt-LAST_DOMAIN
returns-then-rest-i-gt-LAST_DOMAIN c =
    let l = c.loop-i in
    let a = c.args in
    let at = domain_at a.rest.now (λ i. (c.type_inv.rest i).fits) a.count l.i c.requires c.loop-i-test.true in
    sym (wide_here (injections a.rest.now a.count) l.i (omega (arith, many a.rest.now a.count))
    (omega (arith, c.if-rest-i-gt-LAST_DOMAIN.true, at))) ∙ l.invariant

pub loop-i-preserved : goal.loop-i-preserved
loop-i-preserved c =
    let l = c.loop-i in
    let a = c.args in
    let at = domain_at a.rest.now (λ i. (c.type_inv.rest i).fits) a.count l.i c.requires c.loop-i-test.true in
    sym (fits_here (injections a.rest.now a.count) l.i (omega (arith, many a.rest.now a.count))
    (omega (arith, c.if-rest-i-gt-LAST_DOMAIN.false, at))) ∙ l.invariant

pub returns : goal.returns
returns c =
    let l = c.loop-i in
    let a = c.args in
    sym (none_left (injections a.rest.now a.count) l.i (omega (arith, many a.rest.now a.count))) ∙ l.invariant
