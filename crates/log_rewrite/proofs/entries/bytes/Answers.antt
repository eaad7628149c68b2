-- `log_rewrite::entries::bytes` meets its contract: the entries stand behind the count, within the log.
-- Assumes nothing.
use native.Mathlib.Omega.{arith}
use mathlib.Core.Path.{◌≡◌, ap, ◌∙◌}
use Prim.Native.Nat.{ℕ, ◌+◌}
use Rattle.log_section.specs.Section.{count_after}
use Rattle.log_section.specs.Look.{start_after}
use Rattle.log_section.specs.declared.entry.Place.{Place}
use Rattle.log_rewrite.proofs.Given.{stands, counted, bytes_within, bytes_behind}
use Rattle.log_rewrite.proofs.entries.bytes.Goals as goal

pub slice_bounds-result-end : goal.slice_bounds-result-end
slice_bounds-result-end c =
    let a = c.args in
    let s = a.log.now in
    let placed : c.skip-p.result.at ≡ start_after s a.passed =
    ap (λ (p : Place). p.at) (c.skip-p.ensures ∙ stands s c.requires.0 a.passed c.requires.1) in
    let many : c.count.result ≡ count_after s a.passed = c.count.ensures ∙ counted s c.requires.0 a.passed c.requires.1 in
    omega (arith, bytes_within s c.requires.0 a.passed c.requires.1 c.requires.2)

pub returns : goal.returns
returns c =
    let a = c.args in
    let s = a.log.now in
    let placed : c.skip-p.result.at ≡ start_after s a.passed =
    ap (λ (p : Place). p.at) (c.skip-p.ensures ∙ stands s c.requires.0 a.passed c.requires.1) in
    let many : c.count.result ≡ count_after s a.passed = c.count.ensures ∙ counted s c.requires.0 a.passed c.requires.1 in
    let first = c.skip-p.result.at + 4 in
    bytes_behind s c.requires.0 a.passed c.requires.1 c.requires.2 first (first + c.count.result)
    (ap (λ (at : ℕ). at + 4) placed) (ap (λ (n : ℕ). first + n) many)
