-- Masks that ask nothing, and the editions of a mask by one more.
-- Assumes nothing.
use mathlib.Core.Path.{◌≡◌}
use mathlib.Core.Bool.{true, false, cond}
use mathlib.Core.List.{[], ◌++◌}
use Prim.Native.Nat.{ℕ, ◌+◌}
use native.Mathlib.Numerals.{add-one}
use borrow.Author.Tests.{ne_eqb}
use Rattle.bits.specs.Field.{bit_of}
use Rattle.text.specs.Append.{Extends}
use Rattle.text.specs.declared.Text.{Text}
use Rattle.text.specs.Ascii.{ascii}
use Rattle.text.specs.Numeral.{hex_text}
use Rattle.text.proofs.Appending.{extends_both}
use Rattle.refusal_text.specs.Feature.{asked_by}
use Rattle.refusal_text.specs.Refusal.{editions_below}

pub none_asked : (mask : ℕ) → (mask ≡ 0xCCCC → ⊥) → (mask ≡ 0x5555 → ⊥) → (mask ≡ 0x4444 → ⊥) → (mask ≡ 0xF0F0 → ⊥) → (mask ≡ 0xAAAA → ⊥)
    → asked_by false mask ≡ []
none_asked mask a b c d e =
    simp (ne_eqb mask 0xCCCC a, ne_eqb mask 0x5555 b, ne_eqb mask 0x4444 c, ne_eqb mask 0xF0F0 d, ne_eqb mask 0xAAAA e)

pub neither_asked : (mask : ℕ) → (mask ≡ 1 → ⊥) → (mask ≡ 2 → ⊥) → asked_by true mask ≡ []
neither_asked mask a b = simp (ne_eqb mask 1 a, ne_eqb mask 2 b)

-- the editions below n, and the next one
pub editions_more : (mask : ℕ) {old middle new : Text} (n : ℕ) → Extends (editions_below n mask) old middle
    → Extends (cond (bit_of mask n) (ascii " " ++ hex_text n) []) middle new → Extends (editions_below (n + 1) mask) old new
unfolding editions_below
editions_more mask n a b = rw (add-one n) (extends_both a b)
