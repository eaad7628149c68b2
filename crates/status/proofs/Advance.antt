-- Laws of a word whose IT advances: IT is the advanced one, every other bit stays, and a sound word stays sound.
use mathlib.Core.Path.{◌≡◌, sym, ap, ap₂, ◌∙◌}
use mathlib.Core.Bool.{Bool, true, false, not, ◌&&◌, cond}
use Prim.Native.Nat.{ℕ, ◌+◌, ◌*◌, ◌^◌, ◌<◌}
use native.Mathlib.Omega.{arith}
use lib.Dec.{eqb}
use Rattle.status.specs.declared.Marks.{Marks}
use Rattle.bits.specs.Field.{field_of, bit_of}
use Rattle.status.specs.Mode.{is_mode}
use Rattle.status.specs.Sound.{allowed, sound}
use Rattle.status.specs.It.{it_of, it_advance, with_it, it_advanced}

-- a status word whose IT is another, and every other bit the same
pub record Advanced (old it new : ℕ) : Type 0 where
  pub kept9_0 : field_of new 9 0 ≡ field_of old 9 0
  pub it15_10 : field_of new 15 10 ≡ field_of it 7 2
  pub kept24_16 : field_of new 24 16 ≡ field_of old 24 16
  pub it26_25 : field_of new 26 25 ≡ field_of it 1 0
  pub kept31_27 : field_of new 31 27 ≡ field_of old 31 27

-- a sum of the fields, each in its place and within its width: 31:27, 26:25, 24:16, 15:10 and 9:0
module _ (n i g t l : ℕ) (hn : n < 32) (hi : i < 4) (hg : g < 512) (ht : t < 64) (hl : l < 1024) where
  abbrev word : ℕ
  word = n * 2 ^ 27 + i * 2 ^ 25 + g * 2 ^ 16 + t * 2 ^ 10 + l * 2 ^ 0

  digits : (field_of word 9 0 ≡ l) × (field_of word 15 10 ≡ t) × (field_of word 24 16 ≡ g) × (field_of word 26 25 ≡ i)
      × (field_of word 31 27 ≡ n)
  digits = (omega arith, omega arith, omega arith, omega arith, omega arith)

pub with_it_lem : (w it : ℕ) → Advanced w it (with_it w it)
unfolding with_it
with_it_lem w it =
    let d = digits (field_of w 31 27) (field_of it 1 0) (field_of w 24 16) (field_of it 7 2) (field_of w 9 0) (omega arith) (omega arith)
    (omega arith) (omega arith) (omega arith) in
    record { kept9_0 = d.0; it15_10 = d.1; kept24_16 = d.2; it26_25 = d.3; kept31_27 = d.4 }

-- IT of the new word is the advanced one
fits : (b : Bool) (h l : ℕ) → h < 8 → l < 16 → cond b 0 (h * 2 ^ 5 + l * 2 ^ 1) < 256
fits true h l p q = omega arith
fits false h l p q = omega arith

two_parts : (it : ℕ) → it < 256 → field_of it 7 2 * 2 ^ 2 + field_of it 1 0 ≡ it
two_parts it h = omega arith

pub it_advances : (w : ℕ) → it_of (it_advanced w) ≡ it_advance (it_of w)
it_advances w =
    ap₂ (λ (x y : ℕ). x * 2 ^ 2 + y) a.it15_10 a.it26_25
    ∙ two_parts (it_advance (it_of w)) (fits (eqb (field_of (it_of w) 2 0) 0) (field_of (it_of w) 7 5) (field_of (it_of w) 3 0) (omega arith)
    (omega arith))
  where
    a : Advanced w (it_advance (it_of w)) (it_advanced w)
    a = with_it_lem w (it_advance (it_of w))

-- single bits of a field that is kept
mode_of_lem : (w : ℕ) → field_of w 4 0 ≡ field_of (field_of w 9 0) 4 0
mode_of_lem w = omega arith

bit_24 : (w : ℕ) → field_of w 24 24 ≡ field_of (field_of w 24 16) 8 8
bit_24 w = omega arith

bit_23 : (w : ℕ) → field_of w 23 23 ≡ field_of (field_of w 24 16) 7 7
bit_23 w = omega arith

bit_22 : (w : ℕ) → field_of w 22 22 ≡ field_of (field_of w 24 16) 6 6
bit_22 w = omega arith

bit_21 : (w : ℕ) → field_of w 21 21 ≡ field_of (field_of w 24 16) 5 5
bit_21 w = omega arith

-- what a sound word is, from its bits 9:0 and 24:16 alone
abbrev pub sound_by : Marks → ℕ → ℕ → Bool
sound_by marks low high =
    is_mode (field_of low 4 0)
    && not (bit_of high 8)
    && allowed marks.ssbs (bit_of high 7)
    && allowed marks.pan (bit_of high 6)
    && allowed marks.dit (bit_of high 5)

pub by_parts : (marks : Marks) (w : ℕ) → sound marks w ≡ sound_by marks (field_of w 9 0) (field_of w 24 16)
unfolding sound
by_parts marks w =
    ap₂ ◌&&◌
    (ap₂ ◌&&◌
    (ap₂ ◌&&◌
    (ap₂ ◌&&◌ (ap is_mode (mode_of_lem w)) (ap (λ (n : ℕ). not (eqb n 1)) (bit_24 w)))
    (ap (λ (n : ℕ). allowed marks.ssbs (eqb n 1)) (bit_23 w)))
    (ap (λ (n : ℕ). allowed marks.pan (eqb n 1)) (bit_22 w)))
    (ap (λ (n : ℕ). allowed marks.dit (eqb n 1)) (bit_21 w))

pub sound_advanced : (marks : Marks) (w : ℕ) → sound marks (it_advanced w) ≡ sound marks w
sound_advanced marks w =
    by_parts marks (it_advanced w)
    ∙ ap₂ (sound_by marks) a.kept9_0 a.kept24_16
    ∙ sym (by_parts marks w)
  where
    a : Advanced w (it_advance (it_of w)) (it_advanced w)
    a = with_it_lem w (it_advance (it_of w))
