-- A hexadecimal digit's value is below 16.
-- Assumes nothing.
use mathlib.Core.Path.{◌≡◌, refl, ap, ◌∙◌}
use mathlib.Core.Bool.{Bool, true, false, cond, ◌&&◌}
use Prim.Native.Nat.{ℕ, ◌+◌, ◌-◌, ◌≤◌, ◌<◌}
use native.Mathlib.Omega.{arith}
use lib.Dec.{leb}
use borrow.Author.Tests.{leb-true}
use Rattle.text.specs.Digit.{within, hex_digit}
use Rattle.std.specs.Prelude.{Option, Some, None}
use Rattle.std.specs.Option.{SomeIff}
use Rattle.std.specs.Char.{digit_value}
use Rattle.std.proofs.lemmas.Bool.Decides.{nat_tests}

-- a byte that stands between two characters is no greater than the last
at_most : (first last byte : ℕ) → within first last byte ≡ true → byte ≤ last
at_most first last byte h = go (leb first byte) h
  where
    go : (t : Bool) → t && leb byte last ≡ true → byte ≤ last
    go true e = leb-true byte last e
    go false e = let z : ◌≡◌ {A = ℕ} 0 1 = cc in absurd (omega arith)

choose : (t : Bool) (x : ℕ) (rest : Option ℕ) {d : ℕ} → (t ≡ true → x < 16) → (rest ≡ Some d → d < 16)
    → cond t (Some x) rest ≡ Some d → d < 16
choose true x rest {d} here there e = let same : x ≡ d = cc in rw (← same) (here refl)
choose false x rest here there e = there e

no_digit : {d : ℕ} → None ≡ Some d → d < 16
no_digit e = let z : ◌≡◌ {A = ℕ} 0 1 = cc in absurd (omega arith)

pub hex_below : (byte : ℕ) {d : ℕ} → hex_digit byte ≡ Some d → d < 16
hex_below byte =
    choose (within 48 57 byte) (byte - 48) _ (λ h. omega (arith, at_most 48 57 byte h))
    (choose (within 65 70 byte) (byte - 65 + 10) _ (λ h. omega (arith, at_most 65 70 byte h))
    (choose (within 97 102 byte) (byte - 97 + 10) None (λ h. omega (arith, at_most 97 102 byte h)) no_digit))

known : (byte : ℕ) → digit_value byte < 16 → Some (digit_value byte) ≡ hex_digit byte
known byte h = grind (arith, nat_tests)

unknown : (byte : ℕ) → 16 ≤ digit_value byte → None ≡ hex_digit byte
unknown byte h = grind (arith, nat_tests)

-- the library's digit in base 16
pub base_16 : (byte : ℕ) (digit : Option ℕ) → SomeIff digit (digit_value byte < 16) (digit_value byte) → digit ≡ hex_digit byte
base_16 byte None h = unknown byte (omega (arith, h))
base_16 byte (Some d) h = ap Some h.1 ∙ known byte h.0
