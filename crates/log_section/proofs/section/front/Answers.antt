use mathlib.Core.Path.{◌≡◌, ap}
use mathlib.Core.List.{List}
use Prim.Native.Nat.{ℕ, ◌*◌, ◌^◌, ◌≤◌, ◌<◌}
use native.Mathlib.Nat.{mul-le-mul}
use native.Mathlib.Omega.{arith}
use lib.ListN.{take}
use Rattle.log_section.specs.Number.{number}
use Rattle.log_section.specs.Section.{count_of}
use Rattle.log_section.proofs.Found.{entries_cut, is_found}
use Rattle.log_section.proofs.section.front.Goals as goal

-- the product of two 32-bit numbers, and four more, fit 64 bits
product : {a b : ℕ} → a < 2 ^ 32 → b < 2 ^ 32 → a * b ≤ 4294967295 * 4294967295
product {a} {b} p q =
    let pa : a ≤ 4294967295 = omega arith in
    let pb : b ≤ 4294967295 = omega arith in
    mul-le-mul pa pb

counted : (s : List ℕ) {n : ℕ} → n ≡ number (take 4 s) → n ≡ count_of s
unfolding count_of
counted s e = e

pub returns-then-rest-end : goal.returns-then-rest-end
returns-then-rest-end c =
    let e = c.before.before.before.before in
    let size = e.args.size in
    let n = counted e.args.rest.now c.before.four-count.ensures.0 in
    entries_cut size e.args.rest.now c.before.before.if-rest-lt4.false
    (omega (arith, c.if-rest-end.true, ap (λ m. m * size) n, product c.before.four-count.ensures.1 e.ranges.size.fits))

pub returns : goal.returns
returns c =
    let e = c.before.before.before.before in
    let size = e.args.size in
    let n = counted e.args.rest.now c.before.four-count.ensures.0 in
    let p = product c.before.four-count.ensures.1 e.ranges.size.fits in
    is_found size e.args.rest.now _ _ c.before.before.if-rest-lt4.false n (omega (arith, ap (λ m. m * size) n, p))
    (omega (arith, c.if-rest-end.false, ap (λ m. m * size) n, p))
