-- Laws of the status word that an exception leaves: its bits one field after the other.
use mathlib.Core.Path.{◌≡◌}
use mathlib.Core.Bool.{Bool, true, false, not, ◌&&◌, cond}
use Prim.Native.Nat.{ℕ, ◌+◌, ◌*◌, ◌^◌, ◌<◌}
use native.Mathlib.Omega.{arith}
use Rattle.status.specs.declared.Marks.{Marks}
use Rattle.status.specs.declared.Mode.{Mode}
use Rattle.status.specs.declared.Mode.TheVariants.{Supervisor, Abort, Undefined, Fiq, Irq}
use Rattle.bits.specs.Field.{field_of, bit_of}
use Rattle.status.specs.Mode.{mode_number}
use Rattle.status.specs.Base.{entry_a}
use Rattle.status.specs.Entry.{entry_f, entry_pan, entry_ssbs, entry_status}

-- one of two bits
one_bit : (b : Bool) {x y : ℕ} → x < 2 → y < 2 → cond b x y < 2
one_bit true hx hy = hx
one_bit false hx hy = hy

pub a_bit : (set : Bool) (old : ℕ) → entry_a set old < 2
a_bit set old = one_bit set (omega arith) (omega arith)

pub f_bit : (set : Bool) (old : ℕ) → entry_f set old < 2
f_bit set old = one_bit set (omega arith) (omega arith)

pub pan_bit : (marked : Bool) (old sctlr : ℕ) → entry_pan marked old sctlr < 2
pan_bit marked old sctlr = one_bit (marked && not (bit_of sctlr 23)) (omega arith) (omega arith)

pub ssbs_bit : (marked : Bool) (old sctlr : ℕ) → entry_ssbs marked old sctlr < 2
ssbs_bit marked old sctlr = one_bit marked (omega arith) (omega arith)

pub mode_bits : (m : Mode) → mode_number m < 32
mode_bits Supervisor = omega arith
mode_bits Abort = omega arith
mode_bits Undefined = omega arith
mode_bits Fiq = omega arith
mode_bits Irq = omega arith

-- the new status word, bit by bit
pub record Fields (marks : Marks) (m : Mode) (a f : Bool) (old sctlr new : ℕ) : Type 0 where
  pub m4_0 : field_of new 4 0 ≡ mode_number m
  pub t5 : field_of new 5 5 ≡ field_of sctlr 30 30
  pub f6 : field_of new 6 6 ≡ entry_f f old
  pub i7 : field_of new 7 7 ≡ 1
  pub a8 : field_of new 8 8 ≡ entry_a a old
  pub e9 : field_of new 9 9 ≡ field_of sctlr 25 25
  pub it15_10 : field_of new 15 10 ≡ 0
  pub ge19_16 : field_of new 19 16 ≡ field_of old 19 16
  pub il20 : field_of new 20 20 ≡ 0
  pub dit21 : field_of new 21 21 ≡ field_of old 21 21
  pub pan22 : field_of new 22 22 ≡ entry_pan marks.pan old sctlr
  pub ssbs23 : field_of new 23 23 ≡ entry_ssbs marks.ssbs old sctlr
  pub kept24 : field_of new 24 24 ≡ field_of old 24 24
  pub it26_25 : field_of new 26 25 ≡ 0
  pub flags31_27 : field_of new 31 27 ≡ field_of old 31 27

-- a sum of the fields, each in its place and within its width: 31:27, 24, 23, 22, 21, 19:16, 9, 8, 7, 6, 5 and 4:0
module _ (n j s p d g e a f t m : ℕ) (hn : n < 32) (hj : j < 2) (hs : s < 2) (hp : p < 2) (hd : d < 2) (hg : g < 16) (he : e < 2)
    (ha : a < 2) (hf : f < 2) (ht : t < 2) (hm : m < 32) where
  abbrev word : ℕ
  word = n * 2 ^ 27 + j * 2 ^ 24 + s * 2 ^ 23 + p * 2 ^ 22 + d * 2 ^ 21 + g * 2 ^ 16 + e * 2 ^ 9 + a * 2 ^ 8 + 1 * 2 ^ 7 + f * 2 ^ 6
      + t * 2 ^ 5 + m

  digits : (field_of word 4 0 ≡ m) × (field_of word 5 5 ≡ t) × (field_of word 6 6 ≡ f) × (field_of word 7 7 ≡ 1) × (field_of word 8 8 ≡ a)
      × (field_of word 9 9 ≡ e)
      × (field_of word 15 10 ≡ 0) × (field_of word 19 16 ≡ g) × (field_of word 20 20 ≡ 0) × (field_of word 21 21 ≡ d)
      × (field_of word 22 22 ≡ p) × (field_of word 23 23 ≡ s) × (field_of word 24 24 ≡ j)
      × (field_of word 26 25 ≡ 0) × (field_of word 31 27 ≡ n)
  digits = (
    omega arith,
    omega arith,
    omega arith,
    omega arith,
    omega arith,
    omega arith,
    omega arith,
    omega arith,
    omega arith,
    omega
        arith,
    omega arith,
    omega arith,
    omega arith,
    omega arith,
    omega arith,
  )

pub entry_fields : (marks : Marks) (m : Mode) (a f : Bool) (old sctlr : ℕ)
    → Fields marks m a f old sctlr (entry_status marks m a f old sctlr)
unfolding entry_status
entry_fields marks m a f old sctlr =
    let d = digits (field_of old 31 27) (field_of old 24 24) (entry_ssbs marks.ssbs old sctlr) (entry_pan marks.pan old sctlr)
    (field_of old 21 21) (field_of old 19 16) (field_of sctlr 25 25) (entry_a a old) (entry_f f old) (field_of sctlr 30 30) (mode_number m)
    (omega arith) (omega arith) (ssbs_bit marks.ssbs old sctlr) (pan_bit marks.pan old sctlr) (omega arith) (omega arith)
    (omega arith) (a_bit a old) (f_bit f old) (omega arith) (mode_bits m) in
    record {
      m4_0 = d.0;
      t5 = d.1;
      f6 = d.2;
      i7 = d.3;
      a8 = d.4;
      e9 = d.5;
      it15_10 = d.6;
      ge19_16 = d.7;
      il20 = d.8;
      dit21 = d.9;
      pan22 = d.10;
      ssbs23 = d.11;
      kept24 = d.12;
      it26_25 = d.13;
      flags31_27 = d.14;
    }
