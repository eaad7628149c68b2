-- The status word that an exception leaves is sound where the old one was.
use mathlib.Core.Path.{◌≡◌, refl, ap, ap₂, ◌∙◌}
use mathlib.Core.Bool.{Bool, true, false, not, ◌&&◌}
use Prim.Native.Nat.{ℕ}
use lib.Dec.{eqb}
use Rattle.status.specs.declared.Marks.{Marks}
use Rattle.status.specs.declared.Mode.{Mode}
use Rattle.status.specs.declared.Mode.TheVariants.{Supervisor, Abort, Undefined, Fiq, Irq}
use Rattle.bits.specs.Field.{field_of, bit_of}
use Rattle.bits.proofs.Booleans.{and_left, and_right}
use Rattle.status.specs.Mode.{is_mode, mode_number}
use Rattle.status.specs.Sound.{allowed, sound}
use Rattle.status.specs.Entry.{entry_pan, entry_ssbs, entry_status}
use Rattle.status.proofs.Fields.{Fields, entry_fields}

entered_mode : (m : Mode) → is_mode (mode_number m) ≡ true
unfolding is_mode
entered_mode Supervisor = refl
entered_mode Abort = refl
entered_mode Undefined = refl
entered_mode Fiq = refl
entered_mode Irq = refl

-- the tests of a sound word, one by one
pub record SoundFields (marks : Marks) (w : ℕ) : Type 0 where
  pub mode : is_mode (field_of w 4 0) ≡ true
  pub clear : not (bit_of w 24) ≡ true
  pub ssbs : allowed marks.ssbs (bit_of w 23) ≡ true
  pub pan : allowed marks.pan (bit_of w 22) ≡ true
  pub dit : allowed marks.dit (bit_of w 21) ≡ true

pub is_sound : (marks : Marks) (w : ℕ) → sound marks w ≡ true → SoundFields marks w
unfolding sound
is_sound marks w e =
    let m = is_mode (field_of w 4 0) in
    let j = not (bit_of w 24) in
    let s = allowed marks.ssbs (bit_of w 23) in
    let p = allowed marks.pan (bit_of w 22) in
    let d = allowed marks.dit (bit_of w 21) in
    let e1 = and_left (m && j && s && p) d e in
    let e2 = and_left (m && j && s) p e1 in
    let e3 = and_left (m && j) s e2 in
    record {
      mode = and_left m j e3;
      clear = and_right m j e3;
      ssbs = and_right (m && j) s e2;
      pan = and_right (m && j && s) p e1;
      dit = and_right (m && j && s && p) d e;
    }

pub make_sound : (marks : Marks) (w : ℕ) → SoundFields marks w → sound marks w ≡ true
unfolding sound
make_sound marks w s = ap₂ ◌&&◌ (ap₂ ◌&&◌ (ap₂ ◌&&◌ (ap₂ ◌&&◌ s.mode s.clear) s.ssbs) s.pan) s.dit

-- a feature's bit that is kept where the feature isn't marked
still : (marked : Bool) {new old : ℕ} → (marked ≡ false → new ≡ old) → allowed marked (eqb old 1) ≡ true → allowed marked (eqb new 1) ≡ true
still true same e = refl
still false same e = ap (λ (n : ℕ). not (eqb n 1)) (same refl) ∙ e

pan_kept : (marked : Bool) (old sctlr : ℕ) → marked ≡ false → entry_pan marked old sctlr ≡ field_of old 22 22
pan_kept marked old sctlr e = ap (λ (b : Bool). entry_pan b old sctlr) e

ssbs_kept : (marked : Bool) (old sctlr : ℕ) → marked ≡ false → entry_ssbs marked old sctlr ≡ field_of old 23 23
ssbs_kept marked old sctlr e = ap (λ (b : Bool). entry_ssbs b old sctlr) e

pub sound_again : (marks : Marks) (m : Mode) (a f : Bool) (old sctlr : ℕ) → sound marks old ≡ true
    → sound marks (entry_status marks m a f old sctlr) ≡ true
sound_again marks m a f old sctlr e =
    make_sound marks (entry_status marks m a f old sctlr)
    record {
      mode = ap is_mode new.m4_0 ∙ entered_mode m;
      clear = ap (λ (n : ℕ). not (eqb n 1)) new.kept24 ∙ s.clear;
      ssbs = still marks.ssbs (λ u. new.ssbs23 ∙ ssbs_kept marks.ssbs old sctlr u) s.ssbs;
      pan = still marks.pan (λ u. new.pan22 ∙ pan_kept marks.pan old sctlr u) s.pan;
      dit = still marks.dit (λ u. new.dit21) s.dit;
    }
  where
    new : Fields marks m a f old sctlr (entry_status marks m a f old sctlr)
    new = entry_fields marks m a f old sctlr

    s : SoundFields marks old
    s = is_sound marks old e
